use Rattle.std.proofs.Common.{◌≡◌, ◌++◌, map, flat_map, take}
use Rattle.serde_json.specs.View.{view as data_of}
use Rattle.mc_forward.specs.ListedTables.{facts}
use Rattle.mc_json.specs.DomainData.{unmatched_data}
use Rattle.mc_json.proofs.interface_list.push_unmatched.Given as goal

-- the interfaces so far
abbrev pub invariant-loop-number : goal.invariant-loop-number
invariant-loop-number l =
    map data_of l.values.items ≡ map data_of l.initial.values.items
    ++ flat_map (unmatched_data (facts l.domain)) (take l.number l.domain.topology.interfaces)
