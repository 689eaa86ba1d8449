-- What is kept of an input (Input), of which a domain consists (Domains of mc_forward): the routers' vifs,
-- their rows for the flows, and which LAN wants which flow.
use Rattle.std.specs.Prelude.{◌≡◌, ◌↔◌, ℕ, Bool, Contains, List, Option, Some, Result, Ok, Err}
use Rattle.mc_igmp.specs.declared.record.Record.{Record}
use Rattle.mc_files.specs.Files.{FileText}
use Rattle.mc_topology.specs.Topology.{TopologyValue}
use Rattle.mc_topology.specs.declared.flow.Flow.{Flow}
use Rattle.mc_theory.specs.Nets.{Row}
use Rattle.mc_forward.specs.Assembling.{AreWanted, rows_by_tables, vifs_by_tables}
use Rattle.mc_forward.specs.Domains.{DomainValue, VifsValue}
use Rattle.mc_forward.specs.ListedTables.{Pairwise, flow_pairs}
use Rattle.mc_forward.specs.RouterTables.{RouterTablesValue}
use Rattle.mc_input.specs.Input.{InputValue}
use Rattle.mc_input.specs.SourceFault.{IsReadOrMemory}
use Rattle.mc_input.specs.declared.source_fault.SourceFault.{SourceFault}

-- Both lists have the same pairs, of a source and a group, in any order.
abbrev pub AreSamePairs : List (ℕ × ℕ) → List (ℕ × ℕ) → Type 0
AreSamePairs pairs others = (pair : ℕ × ℕ) → Contains pairs pair ↔ Contains others pair

-- The pairs are those of the flows, each a source and a group, in any order.
abbrev pub AreFlowPairs : List Flow → List (ℕ × ℕ) → Type 0
AreFlowPairs flows pairs = AreSamePairs pairs (flow_pairs flows)

-- The answers say of each LAN and each flow whether the LAN's reports want the flow.
abbrev pub AreWantedBy : TopologyValue → List (List Record) → List (List Bool) → Type 0
AreWantedBy topology reports wants = Pairwise (AreWanted topology.flows) reports wants

-- This is what is kept of an input: the routers' vifs, their rows for the flows, and which LAN wants which
-- flow.
pub record AreKeptContents (input : InputValue) (t : TopologyValue) (vifs : List VifsValue)
    (rows : List (List Row)) (wants : List (List Bool)) : Type 0 where
  pub topology : input.topology ≡ t
  pub vifs_kept : vifs ≡ vifs_by_tables input.tables
  pub rows_kept : rows ≡ rows_by_tables t.flows input.tables
  pub wanted : AreWantedBy t input.reports wants

-- The vifs and rows of `tables`, and `wants`, are what is kept of the input.
abbrev pub AreContentsOf : TopologyValue → RouterTablesValue → List (List Bool) → InputValue → Type 0
AreContentsOf topology tables wants input = AreKeptContents input topology tables.vifs tables.rows wants

-- The domain consists of what is kept of the input.
abbrev pub IsDomainOf : DomainValue → InputValue → Type 0
IsDomainOf domain input = AreKeptContents input domain.topology domain.vifs domain.rows domain.wants

-- Where the call gives a value, that is what is kept of the value that the step gives. Where the call gives a
-- fault, the step gives the same, unless the source failed or memory ran out.
abbrev pub GivesKept : {X Y : Type 0} → (X → Y → Type 0) → Result X SourceFault → Result Y SourceFault
    → Type 0
GivesKept {Y = Y} Keeps (Ok kept) step = (whole : Y) × (step ≡ Ok whole) × Keeps kept whole
GivesKept Keeps (Err fault) step = (¬ IsReadOrMemory fault) → step ≡ Err fault

-- The call gives what is kept of what the step gives on the source's contents, if those are known.
abbrev pub GivesKeptFromContents : {X Y : Type 0} → Option (List FileText) → (X → Y → Type 0)
    → Result X SourceFault → (List FileText → Result Y SourceFault) → Type 0
GivesKeptFromContents contents Keeps result step =
    (files : List FileText) → contents ≡ Some files → GivesKept Keeps result (step files)
