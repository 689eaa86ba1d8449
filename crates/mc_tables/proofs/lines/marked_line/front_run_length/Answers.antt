-- Trailing ones are set bits.
use Rattle.mc_tables.proofs.MarkedLemmas.{trailing_ones-set}
use Rattle.mc_tables.proofs.lines.marked_line.front_run_length.Goals as goal

pub returns : goal.returns
returns c k less =
    trailing_ones-set c.args.marks c.trailing_ones.result k c.ranges.marks.fits c.trailing_ones.ensures less
