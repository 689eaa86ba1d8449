use Rattle.std.proofs.Common.{◌≡◌, map, take}
use Rattle.serde_json.specs.View.{view as data_of}
use Rattle.mc_json.specs.DomainData.{source_data}
use Rattle.mc_json.proofs.domain_line.source_values.Given as goal

-- the sources so far
abbrev pub invariant-loop-number : goal.invariant-loop-number
invariant-loop-number l =
    map data_of l.values.items ≡ map (source_data l.topology) (take l.number l.topology.sources)
