-- Shifted by one, the mark of a space lies at the place of the byte before it.
use Rattle.mc_tables.proofs.MarkedLemmas.{last_digits-are_marks}
use Rattle.mc_tables.proofs.lines.marked_line.last_digits.Goals as goal

pub returns : goal.returns
returns c = last_digits-are_marks c.args.digits c.args.spaces
