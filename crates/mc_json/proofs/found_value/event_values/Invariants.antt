use Rattle.std.proofs.Common.{◌≡◌, map, take}
use Rattle.serde_json.specs.View.{view as data_of}
use Rattle.mc_forward.specs.FlightsInDomain.{net_in}
use Rattle.mc_json.specs.FlowData.{event_data}
use Rattle.mc_json.proofs.found_value.event_values.Given as goal

-- the events so far
abbrev pub invariant-loop-event : goal.invariant-loop-event
invariant-loop-event l = map data_of l.values.items
    ≡ map (event_data l.view.domain.topology (net_in l.view)) (take l.event-index l.events)
