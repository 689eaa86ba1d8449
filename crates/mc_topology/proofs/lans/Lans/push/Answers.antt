use Rattle.mc_topology.proofs.InsertedRows.{lan_names-insert_new}
use Rattle.mc_topology.proofs.lans.Lans.push.Goals as goal

-- No LAN has the new name, so that the set puts it behind the others.
pub returns-clause-added : goal.returns-clause-added
returns-clause-added c =
    rw c.in_ok-insert.ensures.keys
    (lan_names-insert_new c.self.inside.names.keys c.in_ok-from_str.field-0 c.args.self.now c.args.name.now
    c.self.view_is c.in_ok-from_str.ensures.ok c.requires.absent)
