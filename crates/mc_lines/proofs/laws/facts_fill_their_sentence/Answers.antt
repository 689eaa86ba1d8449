-- The sentence is given byte by byte, so its pieces are known, and each key is that of a fact.
use Rattle.std.proofs.Common.{append_assoc, append-nil}
use Rattle.mc_lines.proofs.laws.facts_fill_their_sentence.Goals as goal

pub returns-clause-sender : goal.returns-clause-sender
returns-clause-sender c = λ context lan router vif. simp (append_assoc, append-nil)

pub returns-clause-stop : goal.returns-clause-stop
returns-clause-stop c = λ context router vif threshold ttl. simp (append_assoc, append-nil)
