use Rattle.std.proofs.Common.{◌≡◌, map, take}
use Rattle.serde_json.specs.View.{view as data_of}
use Rattle.mc_json_wrong.specs.BehindData.{stray_data}
use Rattle.mc_json_wrong.proofs.behind_value.stray_values.Given as goal

-- the interfaces so far
abbrev pub invariant-loop-stray : goal.invariant-loop-stray
invariant-loop-stray l =
    map data_of l.values.items ≡ map (stray_data l.topology) (take l.stray-index l.strays)
