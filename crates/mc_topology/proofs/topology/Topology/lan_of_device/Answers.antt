use Rattle.std.proofs.Common.{sym, subst}
use Rattle.mc_topology.specs.Topology.{IsValidTopology}
use Rattle.mc_topology.proofs.InterfaceLemmas.{lan_of_interface-below_length, lan_of_interface-no_router}
use Rattle.mc_topology.proofs.topology.Topology.lan_of_device.Goals as goal

-- The LAN is that of an interface of the topology, which is on one of its LANs.
pub returns-clause-listed : goal.returns-clause-listed
returns-clause-listed c =
    let is : IsValidTopology c.args.self.now = subst IsValidTopology c.self.view_is c.self.invariant in
    lan_of_interface-below_length c.args.self.now c.args.router c.args.device.now c.lan_of.result is
    (rw (← c.self.view_is) (sym c.lan_of.ensures))

-- The routers of a topology's interfaces are its own, so that another router has none.
pub returns-clause-no_router : goal.returns-clause-no_router
returns-clause-no_router c =
    let is : IsValidTopology c.args.self.now = subst IsValidTopology c.self.view_is c.self.invariant in
    lan_of_interface-no_router c.args.self.now c.args.router c.args.device.now c.lan_of.result is
    (rw (← c.self.view_is) (sym c.lan_of.ensures))
