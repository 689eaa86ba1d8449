use Rattle.mc_topology.proofs.topology.Topology.source.Goals as goal

-- Each source of a topology keeps its rules, and this is the one with the number.
pub returns-clause-valid : goal.returns-clause-valid
returns-clause-valid c =
    rw (← c.self.view_is)
    (c.self.invariant.valid_sources c.args.source c.source.result c.source.ensures.item)
