-- The sentence is the one for this TTL of the flow, and the line is the only one.
use Rattle.std.proofs.Common.{append-nil}
use Rattle.mc_lines.proofs.sentences.cause_lines.add_take_out.Goals as goal

pub returns : goal.returns
returns g c = rw append-nil (rw (c.remedy_sentence-remedy.ensures, c.flow-flow.ensures) at c.add_line.ensures)
