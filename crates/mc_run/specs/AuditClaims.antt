-- What the text of an audit says of each flow (docs/FORMATS.md, "The program"; docs/PROMISES.md). Two
-- relations are to be trusted: by `SaysWhichAreRight` the text never misjudges a flow, and by `SaysOfEach`
-- what its lines say of a flow is true of the tables that were read.
use Rattle.std.specs.Prelude.{◌≡◌, ◌≤◌, ◌&&◌, ◌⊎◌, ℕ, Bool, true, false, List, ◌++◌, flat_map, length}
use Rattle.std.specs.Prelude.{slice_get, Some}
use Rattle.mc_files.specs.Files.{FileText}
use Rattle.mc_topology.specs.Topology.{TopologyValue, flow_at}
use Rattle.mc_theory.specs.Certificates.{IsAccepted, IsRight}
use Rattle.mc_theory.specs.Headline.{HeadlineHolds}
use Rattle.mc_theory.specs.ShownFrom.{EachCompleteRunHasFault}
use Rattle.mc_forward.specs.Domains.{net_of}
use Rattle.mc_forward.specs.ListedTables.{facts}
use Rattle.mc_cert.specs.Certificate.{Tree}
use Rattle.mc_replay.specs.FindingValues.{finding_value}
use Rattle.mc_replay.specs.declared.finding.Finding.{Finding}
use Rattle.mc_replay.specs.declared.travel.Travel.{Travel}
use Rattle.mc_maker.specs.Examined.{FindsFault, IsFirstPickTravel, IsTtlOfFault}
use Rattle.mc_maker.specs.ExaminedFlights.{HasExaminedFlights}
use Rattle.mc_maker.specs.declared.examined_flights.ExaminedFlights.{ExaminedFlights}
use Rattle.mc_explain.specs.BehindFacts.{IsTrueBehind}
use Rattle.mc_explain.specs.ExplanationValues.{ExplanationValue}
use Rattle.mc_shown.specs.WantedText.{lans_wanting}
use Rattle.mc_explain.specs.declared.causes.behind.Behind.{Behind}
use Rattle.mc_json_wrong.specs.WrongData.{WrongFlow, wrong_data}
use Rattle.mc_json.specs.RowData.{line_of}
use Rattle.mc_cli.specs.declared.audit_options.AuditOptions.{AuditOptions}
use Rattle.mc_run.specs.AuditEnd.{verdict_line}
use Rattle.mc_run.specs.AuditExplanation.{IsExplanation}
use Rattle.mc_run.specs.AuditFlowText.{right_flow_lines, wrong_flow_lines}
use Rattle.mc_run.specs.AuditText.{found_flow_line}
use Rattle.mc_run.specs.AuditedFiles.{AuditedValue, LeftOutValue, MeansAuditedWhere, excluded, is_whole}
use Rattle.mc_commands.specs.MakeRun.{AreRight}

-- ---- the lines of each flow

-- The text has for each flow of the domain, in order, lines of which this holds, and last the verdict.
-- `begin` stands before the lines of the flows, and `end` between them and the verdict.
pub record HasLinesOfEachFlow (audited : AuditedValue) (json all : Bool) (Holds : ℕ → List ℕ → Type 0)
    (written : List ℕ) : Type 0 where
  pub begin : List ℕ
  pub lines : List (List ℕ)
  pub end : List ℕ
  pub count : length lines ≡ length audited.domain.topology.flows
  pub each : (flow : ℕ) (text : List ℕ) → slice_get lines flow ≡ Some text → Holds flow text
  pub spelled : written ≡ begin ++ (flat_map (λ text. text) lines ++ (end ++ verdict_line json all))

-- the lines that say yes to the flow with this tree: that it is right or, where routers are excluded, that no
-- fault of it is known, and which LANs want it. There are none if some LAN wants it and only faults are asked
-- for.
abbrev pub yes_lines : AuditedValue → AuditOptions → (printed : List Tree) → (flow : ℕ) → Tree → List ℕ
yes_lines audited options printed flow tree = right_flow_lines options (is_whole audited)
    (facts audited.domain) printed flow tree (lans_wanting (facts audited.domain) flow)

-- the lines that give the finding of the travel with this TTL, and its explanation
abbrev pub finding_lines : AuditedValue → AuditOptions → (flow ttl : ℕ) → Travel → ExplanationValue → List ℕ
finding_lines audited options flow ttl travel explanation =
    wrong_flow_lines options (facts audited.domain) audited.summary flow ttl travel explanation

-- ---- which flows are right

-- The lines of a flow that isn't right begin with this, whatever the finding: that the flow is wrong, or that
-- this isn't known, which can be only where a router is excluded.
abbrev pub SaysFinding : (json whole : Bool) → TopologyValue → (flow : ℕ) → (lines : List ℕ) → Type 0
SaysFinding true whole topology flow lines =
    (wrong : WrongFlow) × (whole ≡ true → wrong.certainty.known ≡ true)
    × (lines ≡ line_of (wrong_data flow (flow_at topology flow) wrong))
SaysFinding false whole topology flow lines =
    (known : Bool) × (finding : Finding) × (more : List ℕ) × (whole ≡ true → known ≡ true)
    × (lines ≡ found_flow_line topology (flow_at topology flow) known finding ++ more)

-- The lines say yes to the flow if it is right by the known tables, and otherwise that it has a finding.
pub record SaysFlowRight (audited : AuditedValue) (options : AuditOptions) (flow : ℕ)
    (lines : List ℕ) : Type 0 where
  pub right : IsRight (net_of audited.domain flow)
      → (printed : List Tree) × (tree : Tree) × (lines ≡ yes_lines audited options printed flow tree)
  pub wrong : ¬ IsRight (net_of audited.domain flow)
      → SaysFinding options.json (is_whole audited) audited.domain.topology flow lines

-- The text has for each flow lines that say whether it is right, and its verdict is yes exactly if all flows
-- are right and no router is excluded.
pub record WritesWhichAreRight (audited : AuditedValue) (options : AuditOptions) (all : Bool)
    (written : List ℕ) : Type 0 where
  pub lines : HasLinesOfEachFlow audited options.json all (SaysFlowRight audited options) written
  pub right : Bool
  pub are_right : AreRight audited.domain right
  pub answer : all ≡ (is_whole audited && right)

-- The files mean what is audited, and this is such a text of it.
abbrev pub SaysWhichAreRight : AuditOptions → (left : LeftOutValue) → List FileText → (all : Bool)
    → (written : List ℕ) → Type 0
SaysWhichAreRight options left files all written =
    MeansAuditedWhere options left (λ audited. WritesWhichAreRight audited options all written) files

-- ---- what is said of each flow

-- The lines say yes to the flow with the number of entries of a tree. By the tables that were read this is
-- true: the flow is right, the checker accepts the tree, and the headline holds with at most that number of
-- copies.
pub record SaysYesOf (audited : AuditedValue) (options : AuditOptions) (flow : ℕ)
    (lines : List ℕ) : Type 0 where
  pub tree : Tree
  pub printed : List Tree
  pub right : IsRight (net_of audited.domain flow)
  pub accepted : IsAccepted (net_of audited.domain flow) tree
  pub headline : HeadlineHolds (net_of audited.domain flow) (length tree)
  pub spelled : lines ≡ yes_lines audited options printed flow tree

-- The lines give the finding of the flow, and what they say is true.
pub record SaysWhatIsFound (audited : AuditedValue) (options : AuditOptions) (flow : ℕ)
    (lines : List ℕ) : Type 0 where
  pub ttl : ℕ
  pub travel : Travel
  pub flights : ExaminedFlights
  pub explanation : ExplanationValue
  -- By the known tables the flow isn't right.
  pub wrong : ¬ IsRight (net_of audited.domain flow)
  -- The finding is that of the travel of a packet with this TTL in which the first waiting copy is handled
  -- each time;
  pub runs : IsFirstPickTravel audited.domain flow ttl travel
  -- it is a fault;
  pub fault : FindsFault travel
  -- and the TTL is 255 if a fault is found there, and otherwise the flow's.
  pub ttl_shown : IsTtlOfFault audited.domain flow ttl
  -- The explanation is by the flights of the examination. Where a finding is given of a packet with the
  -- flow's own TTL, it is that of such a packet's travel.
  pub has_flights : HasExaminedFlights audited.domain flow flights
  pub explained : IsExplanation audited.domain audited.summary (excluded audited) (is_whole audited)
      flow flights explanation
  -- Where a TTL is given from which on packets show the finding, each packet with that TTL or more carries
  -- two copies on the finding's LAN, or makes the stray, in each complete run in which no copy is lost.
  pub shown : (least sent : ℕ) → explanation.certainty.shown_by.from ≡ Some least → least ≤ sent
      → EachCompleteRunHasFault (net_of audited.domain flow) sent (finding_value travel.finding)
  -- What is given as behind a stray is true of one run of the flow.
  pub behind : (found : Behind) → explanation.behind ≡ Some found → IsTrueBehind audited.domain flow found
  -- The lines give all of this.
  pub spelled : lines ≡ finding_lines audited options flow ttl travel explanation

-- The lines truly say yes to the flow, or what is found of it.
abbrev pub SaysYesOrFinding : AuditedValue → AuditOptions → (flow : ℕ) → (lines : List ℕ) → Type 0
SaysYesOrFinding audited options flow lines =
    SaysYesOf audited options flow lines ⊎ SaysWhatIsFound audited options flow lines

-- The files mean what is audited, and the text has such lines of each flow.
abbrev pub SaysOfEach : AuditOptions → (left : LeftOutValue) → List FileText → (all : Bool)
    → (written : List ℕ) → Type 0
SaysOfEach options left files all written =
    MeansAuditedWhere options left (λ audited.
    HasLinesOfEachFlow audited options.json all (SaysYesOrFinding audited options) written) files
