use Rattle.std.proofs.Common.{◌≡◌, map, take}
use Rattle.serde_json.specs.View.{view as data_of}
use Rattle.mc_json.specs.AskedData.{address_data}
use Rattle.mc_json.proofs.asked_lines.address_values.Given as goal

-- the addresses so far
abbrev pub invariant-loop-address : goal.invariant-loop-address
invariant-loop-address l =
    map data_of l.values.items ≡ map address_data (take l.address-index l.addresses)
