-- The text of an audit as the code makes it, piece by piece. Most of these definitions are others of the
-- crate, with arguments that are taken from what the code holds.
use Rattle.std.specs.Prelude.{◌≡◌, ℕ, Bool, List, ◌++◌, flat_map, length, map, slice_get, Some, take}
use Rattle.std.specs.Prelude.{Option, Result, Ok, Err}
use Rattle.mc_forward.specs.ListedTables.{facts}
use Rattle.mc_cert.specs.Certificate.{Tree}
use Rattle.mc_replay.specs.declared.travel.FinishedTravel.{FinishedTravel}
use Rattle.mc_replay.specs.declared.travel.Travel.{Travel}
use Rattle.mc_search.specs.TopologyLans.{interfaces_on_lans}
use Rattle.mc_search.specs.SearchLine.{Search}
use Rattle.mc_shown.specs.WantedText.{lans_wanting, missed_besides}
use Rattle.mc_search.specs.declared.searching.LanSearch.{LanSearch}
use Rattle.mc_explain.specs.declared.causes.Cause.{Cause}
use Rattle.mc_explain.specs.declared.causes.behind.Behind.{Behind}
use Rattle.mc_explain.specs.declared.causes.explanation.Certainty.{Certainty}
use Rattle.mc_explain.specs.declared.causes.explanation.ShownBy.{ShownBy}
use Rattle.mc_input.specs.declared.domain.FolderDomain.{FolderDomain}
use Rattle.mc_run.specs.FlowCounts.{FlowAnswer, count, is_right, is_unknown, is_unwanted, is_wrong}
use Rattle.mc_run.specs.AuditEnd.{end_objects, end_text, end_text_or_objects}
use Rattle.mc_run.specs.AuditObjects.{key_of_tree, right_objects, wrong_object}
use Rattle.mc_run.specs.AuditExplanation.{is_known_wrong, search_context}
use Rattle.mc_run.specs.AuditedFiles.{AuditedValue, LeftOutValue, excluded, is_whole}
use Rattle.mc_run.specs.AuditRun.{IsFlowAnswer, trees_shown}
use Rattle.mc_explain.specs.ExplanationValues.{ExplanationValue}
use Rattle.mc_run.specs.AuditText.{behind_text, second_behind_text, explanation_lines, right_lines}
use Rattle.mc_run.specs.AuditText.{searched_lines, wrong_lines}
use Rattle.mc_run.specs.AuditFlowText.{is_hidden, right_flow_lines, shown_trees_with, status_of}
use Rattle.mc_run.specs.AuditFlowText.{status_of_right, status_of_wrong, with_shown_tree}
use Rattle.mc_run.specs.AuditFlowText.{wrong_flow_lines}
use Rattle.mc_cli.specs.declared.audit_options.AuditOptions.{AuditOptions}
use Rattle.mc_run.specs.declared.audit.audited_domain.AuditedDomain.{AuditedDomain}
use Rattle.mc_run.specs.declared.audit.audit_output.AuditAnswer.{AuditAnswer}
use Rattle.mc_run.specs.declared.audit.audit_output.AuditOutput.{AuditOutput}
use Rattle.mc_commands.specs.declared.fault.RunFault.{RunFault}
use Rattle.mc_commands.specs.declared.run_output.RunOutput.{RunOutput}
use Rattle.mc_run.specs.declared.audit.flow_status.FlowStatus.{FlowStatus}
use Rattle.mc_run.specs.declared.audit.flow_status.FlowCounts.{FlowCounts}
use Rattle.mc_run.specs.declared.audit.reasons.Reasons.{Reasons}

-- an audited domain as a value
abbrev pub audited_value : AuditedDomain → AuditedValue
audited_value audited = record {
  domain = audited.domain.now;
  summary = audited.summary.now;
  asked = audited.asked.now;
  without = map (λ name. name.now) audited.without.now;
  ignored = audited.ignored.now;
}

-- what is audited of the domain of a folder's files, with what is left out
abbrev pub audited_without : LeftOutValue → FolderDomain → AuditedValue
audited_without left read = record {
  domain = read.domain;
  summary = read.summary.items;
  asked = read.asked;
  without = left.routers;
  ignored = left.groups;
}

-- The interfaces that are kept are those of the domain's LANs, and the marks those of its excluded routers.
pub record HasItsMarksAndInterfaces (audited : AuditedDomain) : Type 0 where
  pub interfaces : audited.interfaces.now ≡ interfaces_on_lans (facts audited.domain.now)
  pub excluded : audited.excluded.now ≡ excluded (audited_value audited)

-- the other LANs that the packet of a finished travel missed, beside that of its finding
abbrev pub also_missed_of : FinishedTravel → List ℕ
also_missed_of ended = missed_besides (facts ended.flight.domain) ended.flight.flow
    ended.flight.flight.carried ended.travel.finding

-- how certain a finding is, by the search for the missed LAN, if there was one, and by which packets show the
-- finding; `whole` is true where no router is excluded
abbrev pub certainty_of : (whole : Bool) → Option LanSearch → ShownBy → Certainty
certainty_of whole search shown_by = record {
  known = is_known_wrong whole search;
  shown_by = shown_by;
}

-- the explanation of a finished travel's finding, from these parts
abbrev pub explanation_in : (whole : Bool) → FinishedTravel → List Cause → Option LanSearch
    → Option Behind → ShownBy → ExplanationValue
explanation_in whole ended printed search behind shown_by = record {
  printed = printed;
  search = search;
  also = also_missed_of ended;
  behind = behind;
  certainty = certainty_of whole search shown_by;
}

-- The lines of a flow were appended, after those of earlier flows, which have printed the trees `printed`;
-- this is the flow's status, and `new_printed` are the trees that are printed then.
pub record IsFlowPushed (audited : AuditedValue) (options : AuditOptions) (flow : ℕ)
    (flow_status : FlowStatus) (printed new_printed : List Tree) (old new : List ℕ) : Type 0 where
  pub answer : FlowAnswer
  pub is : IsFlowAnswer audited options printed flow answer
  pub matches : flow_status ≡ status_of (is_whole audited) answer.examined is.explanation.certainty.known
      answer.wanted
  pub shown_trees : new_printed ≡ shown_trees_with options answer.net printed answer.examined answer.wanted
  pub spelled : new ≡ old ++ answer.lines

-- The lines of the flow with this number and its finding were appended, and this is its status. They print no
-- tree, whichever trees the lines of earlier flows have printed.
abbrev pub IsFindingPushed : AuditedDomain → (flow : ℕ) → FlowStatus → (old new : List ℕ) → Type 0
IsFindingPushed audited flow flow_status old new = (printed : List Tree)
    → IsFlowPushed (audited_value audited) audited.options flow flow_status printed printed old new

-- The lines of this number of flows, from the first on, were appended; these are the counts of these flows,
-- and the trees that they have printed.
pub record AreFlowsPushed (audited : AuditedValue) (options : AuditOptions) (pushed : ℕ)
    (flow_counts : FlowCounts) (printed : List Tree) (old new : List ℕ) : Type 0 where
  pub answers : List FlowAnswer
  pub count_is : length answers ≡ pushed
  pub each : (flow : ℕ) (answer : FlowAnswer) → slice_get answers flow ≡ Some answer
      → IsFlowAnswer audited options (trees_shown options (take flow answers)) flow answer
  pub right : flow_counts.right ≡ count is_right answers
  pub wrong : flow_counts.wrong ≡ count is_wrong answers
  pub unknown : flow_counts.unknown ≡ count is_unknown answers
  pub unwanted : flow_counts.unwanted ≡ count is_unwanted answers
  pub shown_trees : printed ≡ trees_shown options answers
  pub spelled : new ≡ old ++ flat_map (λ answer. answer.lines) answers

-- The lines of all flows were appended, and these are their counts.
abbrev pub AreAllFlowsPushed : AuditedDomain → FlowCounts → (old new : List ℕ) → Type 0
AreAllFlowsPushed audited flow_counts old new = (printed : List Tree)
    × AreFlowsPushed (audited_value audited) audited.options
    (length (audited_value audited).domain.topology.flows)
    flow_counts printed old new

-- ---- the lines of one flow, as they are appended

-- the LANs that want the flow with this number
abbrev pub lans_wanting_flow : AuditedDomain → (flow : ℕ) → List ℕ
lans_wanting_flow audited flow = lans_wanting (facts (audited_value audited).domain) flow

-- the status of a flow without a finding
abbrev pub status_of_right_flow : AuditedDomain → (flow : ℕ) → FlowStatus
status_of_right_flow audited flow = status_of_right (is_whole (audited_value audited))
    (lans_wanting_flow audited flow)

-- the lines of a right flow as text, with its number of copies
abbrev pub right_lines_of : AuditedDomain → (flow copies : ℕ) → (wanted : List ℕ) → List ℕ
right_lines_of audited flow copies wanted =
    right_lines (is_whole (audited_value audited)) (audited_value audited).domain.topology flow copies
    wanted

-- the key of a flow's tree
abbrev pub key_of_shown_tree : AuditedDomain → (flow : ℕ) → Tree → Tree
key_of_shown_tree audited flow tree = key_of_tree (facts (audited_value audited).domain) flow tree

-- the lines of a right flow in JSON
abbrev pub right_objects_of : AuditedDomain → (printed : List Tree) → (flow : ℕ) → Tree → (wanted : List ℕ)
    → List ℕ
right_objects_of audited printed flow tree wanted =
    right_objects (is_whole (audited_value audited)) (facts (audited_value audited).domain) printed flow
    tree wanted

-- the lines of a right flow as the options ask
abbrev pub right_flow_lines_of : AuditedDomain → (printed : List Tree) → (flow : ℕ) → Tree → List ℕ
right_flow_lines_of audited printed flow tree =
    right_flow_lines audited.options (is_whole (audited_value audited))
    (facts (audited_value audited).domain) printed flow tree (lans_wanting_flow audited flow)

-- the printed trees after the lines of a right flow
abbrev pub shown_trees_with_right : AuditedDomain → (printed : List Tree) → (flow : ℕ) → Tree → List Tree
shown_trees_with_right audited printed flow tree = with_shown_tree audited.options.json
    (is_hidden audited.options.faults (lans_wanting_flow audited flow)) printed
    (key_of_shown_tree audited flow tree)

-- what the search reads for the LAN that the packet of a finished travel missed
abbrev pub search_context_of : AuditedDomain → (flow : ℕ) → FinishedTravel → Search
search_context_of audited flow ended = search_context (facts (audited_value audited).domain)
    (audited_value audited).summary
    (excluded (audited_value audited)) flow ended.flight.flight.carried

-- the lines of a search, if there was one
abbrev pub searched_lines_of : AuditedDomain → (flow : ℕ) → Option LanSearch → List ℕ
searched_lines_of audited flow search =
    searched_lines (facts (audited_value audited).domain) (audited_value audited).summary flow search

-- the lines of a second copy behind a stray, if there is one
abbrev pub second_behind_of : AuditedDomain → (flow : ℕ) → Behind → List ℕ
second_behind_of audited flow behind = second_behind_text (facts (audited_value audited).domain)
    (audited_value audited).summary flow
    behind.causes.items behind.shown_from behind.finding

-- the lines of what is behind a stray, if the finding is one
abbrev pub behind_lines_of : AuditedDomain → (flow : ℕ) → Option Behind → List ℕ
behind_lines_of audited flow behind = behind_text (facts (audited_value audited).domain)
    (audited_value audited).summary flow behind

-- the lines of an explanation
abbrev pub explanation_lines_of : AuditedDomain → (flow : ℕ) → ExplanationValue → List ℕ
explanation_lines_of audited flow explanation =
    explanation_lines (facts (audited_value audited).domain) (audited_value audited).summary flow
    explanation

-- the lines as text of a flow with a finding, by the travel that shows the finding
abbrev pub wrong_lines_of : AuditedDomain → (flow : ℕ) → Travel → ExplanationValue → List ℕ
wrong_lines_of audited flow travel explanation =
    wrong_lines audited.options.travels (facts (audited_value audited).domain)
    (audited_value audited).summary flow travel explanation

-- the line in JSON of such a flow, by the travel and the TTL of its packet
abbrev pub wrong_object_of : AuditedDomain → (flow ttl : ℕ) → Travel → ExplanationValue → List ℕ
wrong_object_of audited flow ttl travel explanation =
    wrong_object audited.options.travels (facts (audited_value audited).domain)
    (audited_value audited).summary
    flow ttl travel explanation

-- the lines of such a flow as the options ask
abbrev pub explained_lines_of : AuditedDomain → (flow ttl : ℕ) → FinishedTravel → ExplanationValue → List ℕ
explained_lines_of audited flow ttl ended explanation =
    wrong_flow_lines audited.options (facts (audited_value audited).domain)
    (audited_value audited).summary flow ttl ended.travel explanation

-- the lines of such a flow as the options ask, by the parts of the explanation
abbrev pub wrong_flow_lines_of : AuditedDomain → (flow ttl : ℕ) → FinishedTravel → Reasons → List ℕ
wrong_flow_lines_of audited flow ttl ended reasons = explained_lines_of audited flow ttl ended
    (explanation_in (is_whole (audited_value audited)) ended reasons.causes.items reasons.search
    reasons.behind
    reasons.shown_by)

-- the status of a flow with a finding, by the search for the LAN that its packet missed, if there was one
abbrev pub status_of_wrong_flow : AuditedDomain → Option LanSearch → FlowStatus
status_of_wrong_flow audited search = status_of_wrong
    (is_known_wrong (is_whole (audited_value audited)) search)

-- ---- the lines after the flows, with these counts

-- the lines after the flows, as text; `all` is true where the verdict is yes
abbrev pub end_text_of : AuditedDomain → FlowCounts → (all : Bool) → List ℕ
end_text_of audited flow_counts all = end_text audited.options (audited_value audited).domain.topology
    (audited_value audited).summary
    (audited_value audited).asked audited.excluded.now (is_whole (audited_value audited)) all
    (length (audited_value audited).domain.topology.flows) flow_counts.right flow_counts.wrong
    flow_counts.unknown flow_counts.unwanted

-- the lines after the flows, in JSON
abbrev pub end_objects_of : AuditedDomain → FlowCounts → List ℕ
end_objects_of audited flow_counts = end_objects audited.options (audited_value audited).domain.topology
    (audited_value audited).summary
    (audited_value audited).asked audited.excluded.now (is_whole (audited_value audited)) flow_counts.right
    flow_counts.wrong flow_counts.unknown flow_counts.unwanted

-- the lines after the flows, as the options ask
abbrev pub end_text_or_objects_of : AuditedDomain → FlowCounts → (all : Bool) → List ℕ
end_text_or_objects_of audited flow_counts all =
    end_text_or_objects audited.options (audited_value audited).domain.topology
    (audited_value audited).summary (audited_value audited).asked audited.excluded.now
    (is_whole (audited_value audited)) all
    (length (audited_value audited).domain.topology.flows) flow_counts.right flow_counts.wrong
    flow_counts.unknown flow_counts.unwanted

-- ---- the output and the answer of an audit

-- the output as any run's, or the fault
abbrev pub output_of : Result AuditOutput RunFault → Result RunOutput RunFault
output_of (Ok audit) = Ok audit.run_output
output_of (Err fault) = Err fault

-- whether the answer is yes, or the fault
abbrev pub yes_of : Result AuditAnswer RunFault → Result Bool RunFault
yes_of (Ok answer) = Ok answer.yes
yes_of (Err fault) = Err fault
