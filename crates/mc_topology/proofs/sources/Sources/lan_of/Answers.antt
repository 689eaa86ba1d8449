use Rattle.std.proofs.Common.{◌≡◌, ◌∙◌, ℕ, List, map, refl}
use Rattle.std.specs.Map.{lookup}
use Rattle.std.specs.Prelude.{◌==◌}
use Rattle.mc_topology.specs.SectionRows.{source_row}
use Rattle.mc_topology.specs.Sources.{lan_of_source}
use Rattle.mc_topology.proofs.Keyed.{lookup-find_row}
use Rattle.mc_topology.proofs.InsertedRows.{nat_eq-source_row}
use Rattle.mc_topology.proofs.sources.Sources.lan_of.Goals as goal

-- what the map has for an address is the LAN of the source with it
lookup-source_row : (address : ℕ) (entries : List (ℕ × ℕ))
    → lookup (λ a. address == a) entries ≡ lan_of_source address (map source_row entries)
lookup-source_row address entries =
    lookup-find_row source_row (λ a. address == a) (λ s. s.address == address) (nat_eq-source_row address)
    (λ s. s.lan) (λ e. refl) entries

-- The map has nothing for the address, so that no source has it.
pub returns-in_err-lan : goal.returns-in_err-lan
returns-in_err-lan c =
    rw (← c.self.view_is) (c.from_residual.ensures
    ∙ (c.in_err-lan.ensures.value ∙ lookup-source_row c.args.address c.self.inside.lans.entries))

-- The map has the LAN under the address, which is that of the first source with it.
pub returns : goal.returns
returns c =
    rw (← c.self.view_is)
    (c.in_ok-lan.ensures.value ∙ lookup-source_row c.args.address c.self.inside.lans.entries)
