-- The section `flow` of a topology: the flows that are read, or the first fault. Faults have the
-- order of docs/FORMATS.md.
use Rattle.std.specs.Prelude.{ℕ, ℤ, pos, negsuc, ◌==◌, ◌&&◌, nat_le, List, [], ◌∷◌, length, codes}
use Rattle.std.specs.Prelude.{Bool, Result, Ok, Err, ok_or, if◌then◌else◌}
use Rattle.std.specs.List.{list_any}
use Rattle.toml.specs.Data.{Data, Members}
use Rattle.mc_topology.specs.SectionRows.{SourceRow}
use Rattle.mc_topology.specs.declared.flow.Flow.{Flow}
use Rattle.mc_topology.specs.declared.fault.Section.TheVariants as section
use Rattle.mc_topology.specs.declared.fault.TopologyFaultKind.{TopologyFaultKind}
use Rattle.mc_topology.specs.declared.fault.TopologyFaultKind.TheVariants.{BadTtl, UnknownName}
use Rattle.mc_topology.specs.declared.fault.TopologyFaultKind.TheVariants.{RepeatedFlow, NoFlow}
use Rattle.mc_topology.specs.declared.fault.TopologyFaultKind.TheVariants.{TooMany}
use Rattle.mc_topology.specs.declared.fault.TopologyFault.{TopologyFault}
use Rattle.mc_topology.specs.Addresses.{source_address_of, group_address_of}
use Rattle.mc_text.specs.Steps.{◌>>=◌}
use Rattle.mc_topology.specs.Faults.{locate_fault}
use Rattle.mc_topology.specs.EachRow.{each_row}
use Rattle.mc_topology.specs.Document.{known_table, text_at, number_at, optional_list_at}
use Rattle.mc_topology.specs.Sources.{lan_of_source}

-- the keys of a flow's table
abbrev pub flow_keys : List (List ℕ)
flow_keys = codes "source" ∷ codes "group" ∷ codes "ttl" ∷ []

-- the TTL that a whole number has to be: 1 to 255 (else BadTtl)
unfoldable pub ttl_of : ℤ → Result ℕ TopologyFaultKind
ttl_of (pos n) = if nat_le 1 n && nat_le n 255 then Ok n else Err BadTtl
ttl_of (negsuc n) = Err BadTtl

-- whether a flow has the source and the group
abbrev pub has_flow : ℕ → ℕ → List Flow → Bool
has_flow source group flows = list_any (λ flow. (flow.source == source) && (flow.group == group)) flows

-- The flow of the three values. The first has to be the address of a host that may send (else
-- BadAddress), and that of a source (UnknownName); the second the address of a group that routers
-- forward (BadAddress); the third a TTL (BadTtl). Last, no earlier flow may have the source and the
-- group (RepeatedFlow).
unfoldable pub flow_of_values : List SourceRow → List Flow → List ℕ → List ℕ → ℤ
    → Result Flow TopologyFaultKind
flow_of_values sources earlier source_text group_text ttl_number = do
  source ← source_address_of source_text
  lan ← ok_or (lan_of_source source sources) UnknownName
  group ← group_address_of group_text
  ttl ← ttl_of ttl_number
  if has_flow source group earlier then Err RepeatedFlow
      else Ok (record { source = source; lan = lan; group = group; ttl = ttl })

-- A flow. It has to be a table (else BadKind) with no other keys than these (UnknownKey). Then come
-- the keys `source`, `group` and `ttl`, in this order: each has to be there (MissingKey), the first
-- two as texts, and `ttl` as a whole number (BadKind). Then the values are checked, by
-- `flow_of_values`.
unfoldable pub flow_of : List SourceRow → List Flow → Data → Result Flow TopologyFaultKind
flow_of sources earlier value = do
  table ← known_table flow_keys value
  source_text ← text_at (codes "source") table
  group_text ← text_at (codes "group") table
  ttl_number ← number_at (codes "ttl") table
  flow_of_values sources earlier source_text group_text ttl_number

-- The rows of the section. They have to be a list (else BadKind) of at least one flow (NoFlow) and
-- at most 4,096 (TooMany), in this order.
unfoldable pub flow_rows : Members → Result (List Data) TopologyFaultKind
flow_rows members = do
  rows ← optional_list_at (codes "flow") members
  if length rows == 0 then Err NoFlow
      else if nat_le (length rows) 4096 then Ok rows else Err TooMany

-- The flows: first the section, whose faults have the number 0, and then each flow from the front,
-- whose faults have its number, counted from 1.
unfoldable pub flows_in : List SourceRow → Members → Result (List Flow) TopologyFault
flows_in sources members = do
  rows ← locate_fault section.Flow 0 (flow_rows members)
  each_row section.Flow (flow_of sources) [] rows
