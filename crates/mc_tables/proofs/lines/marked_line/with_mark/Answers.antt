use Rattle.mc_tables.proofs.EndedLineLemmas.{set_bit-with_mark}
use Rattle.mc_tables.proofs.lines.marked_line.with_mark.Goals as goal

-- The bit of the place is the only one that is added.
pub returns : goal.returns
returns c = λ number set. set_bit-with_mark c.args.marks c.args.place number c.requires.within set
