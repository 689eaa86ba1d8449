use Rattle.mc_topology.proofs.topology.Topology.interface.Goals as goal

-- Each interface of a topology keeps its rules, and this is the one with the number.
pub returns-clause-valid : goal.returns-clause-valid
returns-clause-valid c =
    rw (← c.self.view_is)
    (c.self.invariant.valid_interfaces c.args.interface c.interface.result c.interface.ensures.item)
