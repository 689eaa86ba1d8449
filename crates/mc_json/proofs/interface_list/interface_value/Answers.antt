use Rattle.std.proofs.Common.{refl}
use Rattle.mc_json.proofs.interface_list.interface_value.Goals as goal

-- The four members are added one by one; the LAN and the vif are values that the caller made.
pub returns : goal.returns
returns c = c.object.ensures _ (c.value-2.ensures _ _ (c.router.ensures _ (c.value.ensures _ _
    (c.string.ensures _ _ c.new.ensures c.device_name.ensures) refl)) refl)
