use Rattle.std.proofs.Common.{◌≡◌, ◌++◌, map, flat_map}
use Rattle.serde_json.specs.View.{view as data_of}
use Rattle.mc_theory.specs.Lists.{below}
use Rattle.mc_forward.specs.ListedTables.{facts}
use Rattle.mc_json.specs.DomainData.{vifs_data}
use Rattle.mc_json.proofs.interface_list.push_all_vifs.Given as goal

-- the routers so far
abbrev pub invariant-loop-number : goal.invariant-loop-number
invariant-loop-number l =
    map data_of l.values.items ≡ map data_of l.initial.values.items
    ++ flat_map (vifs_data (facts l.domain)) (below l.number)
