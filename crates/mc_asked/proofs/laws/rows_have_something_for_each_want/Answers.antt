use Rattle.mc_asked.proofs.WantStateLemmas.{states-of_rows}
use Rattle.mc_asked.proofs.laws.rows_have_something_for_each_want.Goals as goal

-- Row by row: the greater one of what the rows before and this one have is what both have, and unresolved
-- rows count for nothing.
pub returns : goal.returns
returns c = states-of_rows
