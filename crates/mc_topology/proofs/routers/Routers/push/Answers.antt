use Rattle.mc_topology.proofs.InsertedRows.{router_rows-insert_new}
use Rattle.mc_topology.proofs.routers.Routers.push.Goals as goal

-- No router has the new name, so that the map puts it behind the others.
pub returns-clause-added : goal.returns-clause-added
returns-clause-added c =
    rw c.in_ok-insert.ensures.entries
    (router_rows-insert_new c.self.inside.orders c.in_ok-from_str.field-0 c.args.order c.args.self.now
    c.args.name.now c.self.view_is c.in_ok-from_str.ensures.ok c.requires.absent)
