use Rattle.std.proofs.Common.{refl}
use Rattle.mc_json.proofs.right_line.right_value.Goals as goal

-- The members of every flow come first, and those of a right flow are added one by one.
pub returns : goal.returns
returns c = c.object.ensures _ (c.list.ensures _ _ (c.count-2.ensures _ (c.value.ensures _ _
    (c.count.ensures _ c.flow_fields.ensures) c.right_mark_value.ensures)) refl)
