use Rattle.mc_json.proofs.domain_line.parts_value.Goals as goal

-- The four lists are added one by one; the topology that they are made of is the domain's.
pub returns : goal.returns
returns c = rw c.topology-topology.ensures.topology at (c.object.ensures _ (c.list-4.ensures _ _
    (c.list-3.ensures _ _ (c.list-2.ensures _ _ (c.list.ensures _ _ c.new.ensures
    c.interface_values.ensures) c.lan_values.ensures) c.router_values.ensures)
    c.source_values.ensures))
