-- The text and the answer of `audit` (docs/FORMATS.md, "The program"). `IsAuditText` is the relation to
-- trust: it fixes each byte of the text and the answer by the files alone, so that an audit of the same files
-- with the same options is always the same. What the text promises of a flow is said in AuditClaims, and what
-- its yes promises in AuditYes.
use Rattle.std.specs.Prelude.{◌≡◌, ◌<◌, ◌&&◌, ℕ, Bool, List, [], ◌++◌, flat_map, fold, length, slice_get}
use Rattle.std.specs.Prelude.{take, Some}
use Rattle.mc_files.specs.Files.{FileText}
use Rattle.mc_theory.specs.Headline.{HeadlineHolds}
use Rattle.mc_forward.specs.Domains.{DomainValue, net_of}
use Rattle.mc_forward.specs.ListedTables.{facts}
use Rattle.mc_cert.specs.Certificate.{Tree}
use Rattle.mc_maker.specs.Examined.{IfCertified}
use Rattle.mc_maker.specs.ExaminedFlights.{HasExaminedFlights, without_flights}
use Rattle.mc_maker.specs.declared.examination.Examined.{Examined}
use Rattle.mc_maker.specs.declared.examined_flights.ExaminedFlights.{ExaminedFlights}
use Rattle.mc_explain.specs.ExplanationValues.{ExplanationValue}
use Rattle.mc_shown.specs.WantedText.{lans_wanting}
use Rattle.mc_cli.specs.declared.audit_options.AuditOptions.{AuditOptions}
use Rattle.mc_run.specs.FlowCounts.{FlowAnswer, are_right, count, is_unwanted}
use Rattle.mc_run.specs.AuditBegin.{begin_lines}
use Rattle.mc_run.specs.AuditEnd.{end_lines, verdict_line}
use Rattle.mc_run.specs.AuditExplanation.{IsExplanation}
use Rattle.mc_run.specs.AuditFlowText.{answer_lines, known_right, shown_trees_with}
use Rattle.mc_run.specs.AuditedFiles.{AuditedValue, LeftOutValue, MeansAuditedWhere, excluded, is_whole}
use Rattle.mc_commands.specs.MakeRun.{IsExamined}
use Rattle.mc_run.specs.declared.audit.audit_output.AuditCounts.{AuditCounts}

-- ---- what is printed of each flow

-- The flow is examined with this result; if it is certified, the headline holds for it, with at most as many
-- copies as its list has entries.
pub record IsChecked (domain : DomainValue) (flow : ℕ) (result : Examined) : Type 0 where
  pub examined : IsExamined domain flow result
  pub headline : IfCertified (λ entries. HeadlineHolds (net_of domain flow) (length entries)) result

-- This is printed of the flow with this number, where `printed` are the trees that earlier lines have
-- printed.
pub record IsFlowAnswer (audited : AuditedValue) (options : AuditOptions) (printed : List Tree) (flow : ℕ)
    (answer : FlowAnswer) : Type 0 where
  pub flights : ExaminedFlights
  pub explanation : ExplanationValue
  -- The topology lists the flow, and the answer has its net.
  pub listed : flow < length audited.domain.topology.flows
  pub net : answer.net ≡ net_of audited.domain flow
  -- The flow was examined with this result, by the flights of its travels,
  pub has_flights : HasExaminedFlights audited.domain flow flights
  pub examined : answer.examined ≡ without_flights audited.domain flow flights
  -- and the headline holds for it if it is certified.
  pub checked : IsChecked audited.domain flow answer.examined
  -- The explanation is that of its finding.
  pub explained : IsExplanation audited.domain audited.summary (excluded audited) (is_whole audited)
      flow flights explanation
  -- By these the flow is known to be right, known not to be, or neither.
  pub right : answer.right ≡ known_right (is_whole audited) answer.examined explanation.certainty.known
  -- These LANs want it,
  pub wanted : answer.wanted ≡ lans_wanting (facts audited.domain) flow
  -- and these are the lines of all this.
  pub spelled : answer.lines ≡ answer_lines options (is_whole audited) (facts audited.domain)
      audited.summary printed flow answer.examined explanation answer.wanted

-- the trees that the lines of these flows print, each once, in the order of their first use
abbrev pub trees_shown : AuditOptions → List FlowAnswer → List Tree
trees_shown options = fold (λ printed answer.
    shown_trees_with options answer.net printed answer.examined answer.wanted) []

-- There is such an answer for each flow of the domain's topology, in order.
pub record AreFlowAnswers (audited : AuditedValue) (options : AuditOptions)
    (answers : List FlowAnswer) : Type 0 where
  pub count : length answers ≡ length audited.domain.topology.flows
  pub each : (flow : ℕ) (answer : FlowAnswer) → slice_get answers flow ≡ Some answer
      → IsFlowAnswer audited options (trees_shown options (take flow answers)) flow answer

-- ---- the whole text

-- whether the verdict is yes: all flows are right, and no router is excluded
abbrev pub is_yes : AuditedValue → List FlowAnswer → Bool
is_yes audited answers = is_whole audited && are_right answers

-- the whole text: the lines before the flows, those of the flows, those after them, and the verdict
abbrev pub audit_text : AuditedValue → AuditOptions → List FlowAnswer → List ℕ
audit_text audited options answers =
    begin_lines options (facts audited.domain) (excluded audited) audited.ignored
    ++ (flat_map (λ answer. answer.lines) answers
    ++ (end_lines options audited.domain.topology audited.summary audited.asked (excluded audited)
    (is_whole audited) (is_yes audited answers) answers
    ++ verdict_line options.json (is_yes audited answers)))

-- This is the text of the domain's audit, and `all` says whether its verdict is yes.
pub record IsAudited (audited : AuditedValue) (options : AuditOptions) (all : Bool)
    (written : List ℕ) : Type 0 where
  pub answers : List FlowAnswer
  pub are_answers : AreFlowAnswers audited options answers
  pub answer : all ≡ is_yes audited answers
  pub spelled : written ≡ audit_text audited options answers

-- The files mean what is audited, this is the text of its audit, and the answer says whether the verdict is
-- yes.
abbrev pub IsAuditText : AuditOptions → (left : LeftOutValue) → List FileText → (all : Bool)
    → (written : List ℕ) → Type 0
IsAuditText options left files all written =
    MeansAuditedWhere options left (λ audited. IsAudited audited options all written) files

-- The counts are the number of the domain's flows that are right, or without a known fault, and wanted by no
-- LAN, and the number of wants of LANs that no flow answers.
pub record HasCounts (audited : AuditedValue) (options : AuditOptions)
    (counts : AuditCounts) : Type 0 where
  pub answers : List FlowAnswer
  pub are_answers : AreFlowAnswers audited options answers
  pub unwanted : counts.unwanted ≡ count is_unwanted answers
  pub asked : counts.asked ≡ audited.asked.count
