use Rattle.std.proofs.Common.{refl}
use Rattle.mc_json.proofs.line.list_value.Goals as goal

-- The list is the only member of the object.
pub returns : goal.returns
returns c = c.object.ensures _ (c.list.ensures _ _ c.new.ensures refl)
