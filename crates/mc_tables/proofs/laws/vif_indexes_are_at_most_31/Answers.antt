-- A row with a greater index is refused.
use Rattle.mc_tables.proofs.LawLemmas.{vif_table-is_valid}
use Rattle.mc_tables.proofs.laws.vif_indexes_are_at_most_31.Goals as goal

pub returns : goal.returns
returns c = λ text vifs denotes. (vif_table-is_valid text vifs denotes).numbered
