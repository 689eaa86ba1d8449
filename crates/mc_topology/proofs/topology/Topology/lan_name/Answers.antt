use Rattle.mc_topology.proofs.NameLemmas.{index_of-lan_name}
use Rattle.mc_topology.proofs.topology.Topology.lan_name.Goals as goal

-- No two LANs of a topology have one name, so that the first with this name is the LAN itself.
pub returns-clause-number : goal.returns-clause-number
returns-clause-number c =
    rw (← c.self.view_is)
    (index_of-lan_name c.self.inside.lans c.args.lan c.name.result.now c.self.invariant.lan_names
    c.name.ensures.item)
