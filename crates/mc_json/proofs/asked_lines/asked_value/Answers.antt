use Rattle.mc_json.proofs.asked_lines.asked_value.Goals as goal

-- Each call adds the member of its name to those of the calls before it, inside and then around; so the
-- object has the members of the definition, with the names and addresses that the helpers give.
pub returns : goal.returns
returns c = rw (c.deref.ensures.value, c.deref-2.ensures.value, c.deref-3.ensures.value) at
    (c.object.ensures _ (c.value-2.ensures _ _ c.new-2.ensures (c.object-inner.ensures _
    (c.list-5.ensures _ _ (c.value.ensures _ _
    (c.list-4.ensures _ _ (c.list-3.ensures _ _ (c.list-2.ensures _ _
    (c.list.ensures _ _ (c.string.ensures _ _ c.new.ensures c.format.ensures.ok) c.lan_names.ensures)
    c.address_values.ensures) c.router_names.ensures) c.router_names-2.ensures) c.source_value.ensures)
    c.router_names-3.ensures))))
