use Rattle.std.proofs.Common.{◌≡◌, map, take}
use Rattle.serde_json.specs.View.{view as data_of}
use Rattle.mc_json.specs.AskedData.{service_data}
use Rattle.mc_json.proofs.asked_lines.service_values.Given as goal

-- the services so far
abbrev pub invariant-loop-service : goal.invariant-loop-service
invariant-loop-service l =
    map data_of l.values.items ≡ map (service_data l.topology) (take l.service-index l.services)
