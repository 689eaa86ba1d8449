use Rattle.std.proofs.Common.{refl}
use Rattle.mc_json_wrong.proofs.wrong_line.wrong_fields.Goals as goal

-- The members of every flow come first; then come the TTL, whether the flow is known to be wrong, the packets
-- that show it, the LANs that want it, and the causes.
pub returns : goal.returns
returns c = c.list-2.ensures _ _
    (c.list.ensures _ _ (c.with_shown_from.ensures _ (c.with_wrong_mark-fields.ensures _
    (c.count-fields.ensures _ c.flow_fields.ensures))) refl) refl
