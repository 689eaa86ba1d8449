use Rattle.mc_topology.proofs.topology.Topology.flow.Goals as goal

-- Each flow of a topology keeps its rules, and this is the one with the number.
pub returns-clause-valid : goal.returns-clause-valid
returns-clause-valid c =
    rw (← c.self.view_is)
    (c.self.invariant.valid_flows c.args.flow c.flow.result.now c.flow.ensures.item)
