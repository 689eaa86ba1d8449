use Rattle.std.proofs.Common.{◌∙◌}
use Rattle.std.specs.Str.{bytes_eq}
use Rattle.mc_topology.specs.SectionRows.{router_row}
use Rattle.mc_topology.proofs.Keyed.{is_some_lookup-any_row}
use Rattle.mc_topology.proofs.InsertedRows.{bytes_eq-router_row}
use Rattle.mc_topology.proofs.routers.Routers.has.Goals as goal

-- Two names are equal exactly if their bytes are, so that the map has the name exactly if some router
-- does.
pub returns : goal.returns
returns c =
    let name = c.args.name.now in
    let any =
    is_some_lookup-any_row router_row _ (λ r. bytes_eq r.name name) (bytes_eq-router_row name)
    c.self.inside.orders.entries in
    rw (← c.self.view_is) (c.contains_key.ensures ∙ any)
