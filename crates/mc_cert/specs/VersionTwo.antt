-- The trees that are read of a certificate of version 2, and its flows, each with the number of its
-- tree; or the first fault. Faults have the order of docs/FORMATS.md.
use Rattle.std.specs.Prelude.{ℕ, ◌+◌, nat_lt, List, [], ◌∷◌, length, map, codes, Option, Some, None}
use Rattle.std.specs.Prelude.{Result, Ok, Err, if◌then◌else◌}
use Rattle.serde_json.specs.Data.{Data, Members}
use Rattle.serde_json.specs.Find.{as_u64}
use Rattle.mc_text.specs.Steps.{◌>>=◌}
use Rattle.mc_topology.specs.declared.flow.Flow.{Flow}
use Rattle.mc_topology.specs.Topology.{TopologyValue}
use Rattle.mc_cert.specs.declared.fault.At.TheVariants as at
use Rattle.mc_cert.specs.declared.fault.CertFaultKind.{CertFaultKind}
use Rattle.mc_cert.specs.declared.fault.CertFaultKind.TheVariants.{BadNumber, WrongFlows}
use Rattle.mc_cert.specs.declared.fault.CertFault.{CertFault}
use Rattle.mc_cert.specs.Answer.{locate_fault, each_row}
use Rattle.mc_cert.specs.Certificate.{Tree, tree_at}
use Rattle.mc_cert.specs.Entries.{entries_in_rows}
use Rattle.mc_cert.specs.Object.{object_of, list_of, text_at, number_at, list_at, at_most}
use Rattle.mc_cert.specs.VersionOne.{are_texts_of_flow, flow_at, flow_rows}

-- The rows of the trees. The key `trees` has to be there (else MissingKey), to be a list (BadKind),
-- and to have at most 4,096 rows (TooMany).
unfoldable pub tree_rows : Members → Result (List Data) CertFaultKind
tree_rows members = list_at (codes "trees") members >>= at_most 4096

-- the rows of a tree's entries: the tree has to be a list (else BadKind) of at most 1,024 (TooMany)
unfoldable pub tree_entry_rows : Data → Result (List Data) CertFaultKind
tree_entry_rows value = list_of value >>= at_most 1024

-- the tree with this number, counted from 0; first come its own faults, and then those of its
-- entries
unfoldable pub tree_of : TopologyValue → ℕ → Data → Result Tree CertFault
tree_of topology number value = do
  rows ← locate_fault (at.Tree (number + 1)) (tree_entry_rows value)
  entries_in_rows topology (at.Tree (number + 1)) rows

-- the number, which has to be whole, and below the count (else BadNumber)
abbrev pub below_count : ℕ → Option ℕ → Result ℕ CertFaultKind
below_count count None = Err BadNumber
below_count count (Some number) = if nat_lt number count then Ok number else Err BadNumber

-- the keys of a flow's object
abbrev pub shared_flow_keys : List (List ℕ)
shared_flow_keys = codes "group" ∷ codes "source" ∷ codes "tree" ∷ []

-- The number of a flow's tree. The flow has to be an object (else BadKind) with no other keys than
-- these (UnknownKey). Then come the keys `group`, `source` and `tree`, in this order: each has to
-- be there (MissingKey), as a text, a text and a number (BadKind). Then the number has to be a
-- whole one below the number of trees (BadNumber), and the group and the source have to be those of
-- the topology's flow (WrongFlows).
unfoldable pub tree_no_of : Flow → ℕ → Data → Result ℕ CertFaultKind
tree_no_of flow trees value = do
  members ← object_of shared_flow_keys value
  group ← text_at (codes "group") members
  source ← text_at (codes "source") members
  number ← number_at (codes "tree") members
  tree ← below_count trees (as_u64 number)
  if are_texts_of_flow flow group source then Ok tree else Err WrongFlows

-- the number of the tree of the flow with this number, counted from 0
unfoldable pub shared_flow_of : TopologyValue → ℕ → ℕ → Data → Result ℕ CertFault
shared_flow_of topology trees number value = do
  flow ← locate_fault (at.Flow (number + 1)) (flow_at topology number)
  locate_fault (at.Flow (number + 1)) (tree_no_of flow trees value)

-- the tree of each flow, in order, or the first fault: first those of the two lists, then those of
-- the trees, and then those of the flows
unfoldable pub shared_flows_in : TopologyValue → Members → Result (List Tree) CertFault
shared_flows_in topology members = do
  rows ← locate_fault at.Top (flow_rows topology members)
  listed ← locate_fault at.Top (tree_rows members)
  trees ← each_row (tree_of topology) [] listed
  numbers ← each_row (shared_flow_of topology (length trees)) [] rows
  Ok (map (tree_at trees) numbers)
