use Rattle.std.proofs.Common.{◌≡◌, flat_map, map, take}
use Rattle.mc_forward.specs.Domains.{oif_pairs}
use Rattle.serde_json.specs.View.{view as data_of}
use Rattle.mc_json.specs.FlowData.{passed_vif}
use Rattle.mc_json.specs.RowData.{count_data}
use Rattle.mc_json.proofs.found_value.passed_vif_values.Given as goal

-- the vifs so far
abbrev pub invariant-loop-oif : goal.invariant-loop-oif
invariant-loop-oif l = map data_of l.values.items
    ≡ map count_data (flat_map (passed_vif l.ttl) (oif_pairs (take l.oif-index l.oifs)))
