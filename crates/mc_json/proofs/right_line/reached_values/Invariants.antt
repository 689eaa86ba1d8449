use Rattle.std.proofs.Common.{◌≡◌, map, take}
use Rattle.serde_json.specs.View.{view as data_of}
use Rattle.mc_forward.specs.FlightsInDomain.{net_in}
use Rattle.mc_json.specs.FlowData.{reached_data}
use Rattle.mc_json.proofs.right_line.reached_values.Given as goal

-- the LANs so far
abbrev pub invariant-loop-entry : goal.invariant-loop-entry
invariant-loop-entry l = map data_of l.values.items
    ≡ map (reached_data l.view.domain.topology (net_in l.view)) (take l.entry-index l.entries)
