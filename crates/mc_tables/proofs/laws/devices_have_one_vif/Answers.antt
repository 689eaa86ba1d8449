-- A row whose device an earlier one has is refused, unless the device is `none`.
use Rattle.mc_tables.proofs.LawLemmas.{vif_table-is_valid}
use Rattle.mc_tables.proofs.laws.devices_have_one_vif.Goals as goal

pub returns : goal.returns
returns c = λ text vifs denotes. (vif_table-is_valid text vifs denotes).devices_differ
