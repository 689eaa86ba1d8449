use Rattle.mc_topology.proofs.NameLemmas.{router_no_of-router_name}
use Rattle.mc_topology.proofs.topology.Topology.router_name.Goals as goal

-- No two routers of a topology have one name, so that the first with this name is the router itself.
pub returns-clause-number : goal.returns-clause-number
returns-clause-number c =
    rw (← c.self.view_is)
    (router_no_of-router_name c.self.inside.routers c.args.router c.name.result.now
    c.self.invariant.router_names c.name.ensures.item)
