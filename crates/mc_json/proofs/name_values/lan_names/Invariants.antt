use Rattle.std.proofs.Common.{◌≡◌, map, take}
use Rattle.serde_json.specs.View.{view as data_of}
use Rattle.mc_json.specs.RowData.{lan_data}
use Rattle.mc_json.proofs.name_values.lan_names.Given as goal

-- the names so far
abbrev pub invariant-loop-lan : goal.invariant-loop-lan
invariant-loop-lan l =
    map data_of l.values.items ≡ map (lan_data l.topology) (take l.lan-index l.lans)
