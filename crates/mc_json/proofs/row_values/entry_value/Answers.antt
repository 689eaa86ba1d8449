use Rattle.mc_json.proofs.row_values.entry_value.Goals as goal

-- The object of the incoming vif is made first, and is a member of the row's.
pub returns : goal.returns
returns c = rw c.topology.ensures.topology at (c.object.ensures _ (c.list.ensures _ _
    (c.string-2.ensures _ _ (c.router.ensures _ (c.string.ensures _ _ (c.value-2.ensures _ _
    c.new-2.ensures (c.object-from.ensures _ (c.count.ensures _ (c.value.ensures _ _ c.new.ensures
    c.device_value.ensures)))) c.address_text.ensures)) c.address_text-2.ensures) c.oif_values.ensures))
