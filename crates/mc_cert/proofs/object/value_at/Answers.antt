use Rattle.mc_cert.proofs.Objects.{get_member-object}
use Rattle.mc_cert.proofs.object.value_at.Goals as goal

-- Looking a key up in the map gives the value of the member with this key.
pub returns : goal.returns
returns c = get_member-object c.get.result c.args.key.now c.args.object.now.entries c.get.ensures.value
