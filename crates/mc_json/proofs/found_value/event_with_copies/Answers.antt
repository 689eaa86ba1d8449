use Rattle.mc_json.proofs.found_value.event_with_copies.Goals as goal

-- Each call adds the member of its name; the copies and the vifs that sent them are those of this event in
-- the flow's net.
pub returns : goal.returns
returns c = rw (← c.event.view_is) (rw c.topology.ensures.topology at (c.object.ensures _
    (c.count-4.ensures _ (c.count-3.ensures _ (c.count-2.ensures _ (c.router.ensures _ (c.text.ensures _
    (c.list.ensures _ _ (c.count.ensures _ c.new.ensures)
    (rw (← c.event.view_is) at c.sent_vif_values.ensures)))))))))
