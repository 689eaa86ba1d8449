-- Devices other than `none` differ, so that the first vif with a device is the only one.
use Rattle.mc_tables.proofs.LawLemmas.{vif_table-is_valid}
use Rattle.mc_tables.proofs.VifLookupLemmas.{index_of-exact}
use Rattle.mc_tables.proofs.laws.index_answered_has_the_device.Goals as goal

pub returns : goal.returns
returns c = λ text vifs denotes device index.
    index_of-exact vifs device index (vif_table-is_valid text vifs denotes)
