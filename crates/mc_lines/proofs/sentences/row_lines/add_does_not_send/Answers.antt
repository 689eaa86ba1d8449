-- The sentence is chosen by whether the LAN that the row takes from carried a copy.
use Rattle.mc_lines.proofs.sentences.row_lines.add_does_not_send.Goals as goal

pub returns : goal.returns
returns g c = rw c.missing_sentence.ensures at c.add_line.ensures
