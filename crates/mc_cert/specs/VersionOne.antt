-- The flows that are read of a certificate of version 1, each with its own entries, or the first
-- fault. Faults have the order of docs/FORMATS.md.
use Rattle.std.specs.Prelude.{ℕ, ◌+◌, ◌==◌, ◌&&◌, Bool, List, [], ◌∷◌, length, codes, slice_get}
use Rattle.std.specs.Prelude.{Result, Ok, Err, ok_or, if◌then◌else◌}
use Rattle.std.specs.Str.{bytes_eq}
use Rattle.serde_json.specs.Data.{Data, Members}
use Rattle.mc_text.specs.Addr.{dotted}
use Rattle.mc_text.specs.Steps.{◌>>=◌}
use Rattle.mc_topology.specs.declared.flow.Flow.{Flow}
use Rattle.mc_topology.specs.Topology.{TopologyValue}
use Rattle.mc_cert.specs.declared.fault.At.TheVariants as at
use Rattle.mc_cert.specs.declared.fault.CertFaultKind.{CertFaultKind}
use Rattle.mc_cert.specs.declared.fault.CertFaultKind.TheVariants.{WrongFlows}
use Rattle.mc_cert.specs.declared.fault.CertFault.{CertFault}
use Rattle.mc_cert.specs.Answer.{locate_fault, each_row}
use Rattle.mc_cert.specs.Certificate.{Tree}
use Rattle.mc_cert.specs.Entries.{entries_in_rows}
use Rattle.mc_cert.specs.Object.{object_of, text_at, list_at, at_most}

-- whether the texts are the flow's group and its source
abbrev pub are_texts_of_flow : Flow → List ℕ → List ℕ → Bool
are_texts_of_flow flow group source = bytes_eq group (dotted flow.group)
    && bytes_eq source (dotted flow.source)

-- the flow of the topology with this number, which has to be there (else WrongFlows)
abbrev pub flow_at : TopologyValue → ℕ → Result Flow CertFaultKind
flow_at topology number = ok_or (slice_get topology.flows number) WrongFlows

-- The rows of the flows, in both versions. The key `flows` has to be there (else MissingKey), to be
-- a list (BadKind), and to have as many rows as the topology has flows (WrongFlows).
unfoldable pub flow_rows : TopologyValue → Members → Result (List Data) CertFaultKind
flow_rows topology members = do
  rows ← list_at (codes "flows") members
  if length rows == length topology.flows then Ok rows else Err WrongFlows

-- the keys of a flow's object
abbrev pub flow_keys : List (List ℕ)
flow_keys = codes "group" ∷ codes "reached" ∷ codes "source" ∷ []

-- The rows of a flow's entries. The flow has to be an object (else BadKind) with no other keys than
-- these (UnknownKey). Then come the keys `group`, `reached` and `source`, in this order: each has
-- to be there (MissingKey), as a text, a list and a text (BadKind). Then the group and the source
-- have to be those of the topology's flow (WrongFlows), and the entries at most 1,024 (TooMany).
unfoldable pub reached_rows : Flow → Data → Result (List Data) CertFaultKind
reached_rows flow value = do
  members ← object_of flow_keys value
  group ← text_at (codes "group") members
  rows ← list_at (codes "reached") members
  source ← text_at (codes "source") members
  if are_texts_of_flow flow group source then at_most 1024 rows else Err WrongFlows

-- the tree of the flow with this number, counted from 0; first come the flow's own faults, and then
-- those of its entries
unfoldable pub flow_of : TopologyValue → ℕ → Data → Result Tree CertFault
flow_of topology number value = do
  flow ← locate_fault (at.Flow (number + 1)) (flow_at topology number)
  rows ← locate_fault (at.Flow (number + 1)) (reached_rows flow value)
  entries_in_rows topology (at.Flow (number + 1)) rows

-- the tree of each flow, in order, or the first fault
unfoldable pub flows_in : TopologyValue → Members → Result (List Tree) CertFault
flows_in topology members = do
  rows ← locate_fault at.Top (flow_rows topology members)
  each_row (flow_of topology) [] rows
