use Rattle.std.proofs.Common.{◌∙◌, sym}
use Rattle.std.specs.Prelude.{string_bytes}
use Rattle.std.specs.Str.{bytes_eq}
use Rattle.mc_topology.proofs.Keyed.{position-map_row}
use Rattle.mc_topology.proofs.InsertedRows.{bytes_eq-lan_name}
use Rattle.mc_topology.proofs.lans.Lans.number_of.Goals as goal

-- The set answers no index exactly where no LAN has these bytes as its name.
pub returns-in_err-index-clause-number : goal.returns-in_err-index-clause-number
returns-in_err-index-clause-number c =
    let name = c.args.name.now in
    let place = position-map_row string_bytes _ (λ x. bytes_eq x name)
    (bytes_eq-lan_name name) c.self.inside.names.keys in
    rw (← c.self.view_is)
    (c.from_residual.ensures ∙ (sym c.in_err-index.was ∙ (c.get_index_of.ensures.index ∙ place)))

-- The set's index of a name is the place of the first LAN with these bytes as its name.
pub returns-clause-number : goal.returns-clause-number
returns-clause-number c =
    let name = c.args.name.now in
    let place = position-map_row string_bytes _ (λ x. bytes_eq x name)
    (bytes_eq-lan_name name) c.self.inside.names.keys in
    rw (← c.self.view_is) (sym c.in_ok-index.was ∙ (c.get_index_of.ensures.index ∙ place))
