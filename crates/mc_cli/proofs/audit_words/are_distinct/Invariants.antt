use Rattle.std.proofs.Common.{◌≡◌, map, drop}
use Rattle.mc_cli.specs.AuditWords.{are_distinct}
use Rattle.mc_cli.proofs.audit_words.are_distinct.Given as goal

-- No word so far is repeated, so that the answer is that of the words to come.
abbrev pub invariant-loop-at : goal.invariant-loop-at
invariant-loop-at l =
    are_distinct (map (λ word. word.now) (drop l.at l.words)) ≡ are_distinct (map (λ word. word.now) l.words)
