use Rattle.mc_tables.proofs.MarkedLemmas.{trailing_zeros-unset, trailing_zeros-set}
use Rattle.mc_tables.proofs.lines.marked_line.lowest_set_bit.Goals as goal

-- Trailing zeros are bits that aren't set.
pub returns-clause-lowest : goal.returns-clause-lowest
returns-clause-lowest c k less = trailing_zeros-unset c.args.marks k c.ranges.marks.fits less

-- The bit after them is set, if any is.
pub returns-clause-set : goal.returns-clause-set
returns-clause-set c few = trailing_zeros-set c.args.marks c.ranges.marks.fits few
