use Rattle.std.proofs.Common.{◌∙◌}
use Rattle.std.specs.Prelude.{◌==◌}
use Rattle.mc_topology.specs.SectionRows.{source_row}
use Rattle.mc_topology.proofs.Keyed.{is_some_lookup-any_row}
use Rattle.mc_topology.proofs.InsertedRows.{nat_eq-source_row}
use Rattle.mc_topology.proofs.sources.Sources.has.Goals as goal

-- Each source is kept under its own address, so that the map has the address exactly if some source
-- does.
pub returns : goal.returns
returns c =
    let address = c.args.address in
    let any =
    is_some_lookup-any_row source_row _ (λ s. s.address == address) (nat_eq-source_row address)
    c.self.inside.lans.entries in
    rw (← c.self.view_is) (c.contains_key.ensures ∙ any)
