-- There is one sentence, so no line feed comes between sentences.
use Rattle.std.proofs.Common.{append-nil}
use Rattle.mc_lines.proofs.laws.text_and_json_have_the_same_sentence.Goals as goal

pub returns : goal.returns
returns c = λ context kind sentence facts. simp append-nil
