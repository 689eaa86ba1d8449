use Rattle.mc_json.proofs.right_line.reached_value.Goals as goal

-- Each call adds the member of its name; the vif that the copy came in by is that of the router's entry for
-- this flow.
pub returns : goal.returns
returns c = rw (← c.entry.view_is) (rw (c.topology-topology.ensures.topology, c.taking_interface.ensures) at
    (c.object.ensures _ (c.with_vif.ensures _ (c.with_vif-fields.ensures _
    (c.with_sending_router-fields.ensures _ (c.count-fields.ensures _ (c.count.ensures _ (c.lan.ensures _
    c.new.ensures))))))))
