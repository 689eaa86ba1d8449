use Rattle.mc_topology.proofs.Places.{slice_get-router_order}
use Rattle.mc_topology.proofs.routers.Routers.order.Goals as goal

-- The map's values stand in the order of the rows, so that the one at an index is that row's byte
-- order.
pub returns : goal.returns
returns c = record {
  item = (
      let at = rw c.router.view_is at c.index.ensures in
      rw (← c.self.view_is)
      (slice_get-router_order c.self.inside.orders.entries c.args.router c.index.result.now at));
}
