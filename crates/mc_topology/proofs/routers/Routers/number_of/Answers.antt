use Rattle.std.proofs.Common.{◌∙◌, sym}
use Rattle.std.specs.Str.{bytes_eq}
use Rattle.mc_topology.specs.SectionRows.{router_row}
use Rattle.mc_topology.proofs.Keyed.{position-keys_of}
use Rattle.mc_topology.proofs.InsertedRows.{bytes_eq-router_row}
use Rattle.mc_topology.proofs.routers.Routers.number_of.Goals as goal

-- The map answers no index exactly where no router has these bytes as its name.
pub returns-in_err-index-clause-number : goal.returns-in_err-index-clause-number
returns-in_err-index-clause-number c =
    let name = c.args.name.now in
    let place =
    position-keys_of router_row _ (λ r. bytes_eq r.name name) (bytes_eq-router_row name)
    c.self.inside.orders.entries in
    rw (← c.self.view_is)
    (c.from_residual.ensures ∙ (sym c.in_err-index.was ∙ (c.get_index_of.ensures.index ∙ place)))

-- The map's index of a name is the place of the first router with these bytes as its name.
pub returns-clause-number : goal.returns-clause-number
returns-clause-number c =
    let name = c.args.name.now in
    let place =
    position-keys_of router_row _ (λ r. bytes_eq r.name name) (bytes_eq-router_row name)
    c.self.inside.orders.entries in
    rw (← c.self.view_is) (sym c.in_ok-index.was ∙ (c.get_index_of.ensures.index ∙ place))
