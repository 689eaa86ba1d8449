use Rattle.std.proofs.Common.{◌≡◌, length, flat_map}
use Rattle.mc_theory.specs.Lists.{below}
use Rattle.mc_forward.specs.ListedTables.{facts}
use Rattle.mc_search.specs.BucketsAndMarks.{AreInterfacesByLan}
use Rattle.mc_search.specs.TopologyLans.{interfaces_of_router}
use Rattle.mc_search.proofs.interfaces_of_lans.interfaces_of_lans.Given as goal

-- each LAN's list has the interfaces on it of the routers so far
abbrev pub invariant-loop-router : goal.invariant-loop-router
invariant-loop-router l = record {
  count : length l.lists.items ≡ length l.fn.domain.topology.lans;
  holds : AreInterfacesByLan (facts l.fn.domain) l.lists.items
      (flat_map (interfaces_of_router l.fn.domain.topology (below (length l.fn.domain.topology.interfaces)))
      (below l.router-index));
}
