use Rattle.std.proofs.Common.{refl}
use Rattle.mc_json_wrong.proofs.behind_value.found_behind_value.Goals as goal

-- Each call adds the member of its name to those of the calls before it; the names are those of the LANs,
-- routers and strays that are behind the stray.
pub returns : goal.returns
returns c = rw (c.deref.ensures.value, c.deref-2.ensures.value, c.deref-3.ensures.value) at
    (c.object.ensures _ (c.list-3.ensures _ _ (c.list-2.ensures _ _ (c.with_shown_from.ensures _
    (c.list-fields.ensures _ _ (c.list.ensures _ _ (c.value.ensures _ _ c.new.ensures
    c.optional_finding_value.ensures) c.lan_names.ensures) c.router_names.ensures))
    c.stray_values-strays.ensures) refl))
