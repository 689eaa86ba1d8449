use Rattle.std.proofs.Common.{◌≡◌, ◌++◌, map, flat_map}
use Rattle.serde_json.specs.View.{view as data_of}
use Rattle.mc_theory.specs.Lists.{below}
use Rattle.mc_forward.specs.Domains.{vif_of}
use Rattle.mc_forward.specs.ListedTables.{facts}
use Rattle.mc_json.specs.DomainData.{vif_data}
use Rattle.mc_json.proofs.interface_list.push_vifs.Given as goal

-- the vifs so far
abbrev pub invariant-loop-vif : goal.invariant-loop-vif
invariant-loop-vif l =
    map data_of l.values.items ≡ map data_of l.initial.values.items
    ++ flat_map (λ vif. vif_data (facts l.domain) l.router vif (vif_of l.domain.vifs l.router vif))
    (below l.vif)
