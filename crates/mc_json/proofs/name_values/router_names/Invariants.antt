use Rattle.std.proofs.Common.{◌≡◌, map, take}
use Rattle.serde_json.specs.View.{view as data_of}
use Rattle.mc_json.specs.RowData.{router_data}
use Rattle.mc_json.proofs.name_values.router_names.Given as goal

-- the names so far
abbrev pub invariant-loop-router : goal.invariant-loop-router
invariant-loop-router l =
    map data_of l.values.items ≡ map (router_data l.topology) (take l.router-index l.routers)
