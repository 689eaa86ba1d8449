-- The lines of a flow in an audit, as text or in JSON: none says yes.
use Rattle.std.proofs.Common.{◌≡◌, ℕ, suc, Bool, true, false, List, [], ◌∷◌, ◌++◌, length, Option, Some}
use Rattle.std.proofs.Common.{None, refl, sym, ap, subst, ◌∙◌, append_assoc}
use Rattle.std.specs.Prelude.{codes, slice_get, decimal, flat_map, is_some, map}
use Rattle.mc_text.proofs.ByteLemmas.{HasNoByte}
use Rattle.mc_topology.specs.Topology.{TopologyValue, IsValidTopology, flow_at}
use Rattle.mc_cert.specs.Certificate.{Tree}
use Rattle.mc_cert.specs.Distinct.{find_tree}
use Rattle.mc_replay.specs.TravelText.{finding_text}
use Rattle.mc_replay.specs.declared.finding.Finding.{Finding}
use Rattle.mc_replay.specs.declared.travel.Travel.{Travel}
use Rattle.mc_maker.specs.declared.examination.Examined.{Examined}
use Rattle.mc_maker.specs.declared.examination.Examined.TheVariants.{Certified, Found}
use Rattle.mc_tables.specs.Summary.{SummaryValue}
use Rattle.mc_forward.specs.ListedTables.{DomainFacts, facts}
use Rattle.mc_lines.specs.ExplanationText.{causes_text, deeper_causes_text}
use Rattle.mc_shown.specs.WantedText.{also_missed_text, wanted_text}
use Rattle.mc_search.specs.declared.searching.LanSearch.{LanSearch}
use Rattle.mc_lines.specs.BehindText.{leaks_behind_text}
use Rattle.mc_explain.specs.declared.causes.Cause.{Cause}
use Rattle.mc_explain.specs.declared.causes.behind.Behind.{Behind}
use Rattle.mc_explain.specs.declared.causes.explanation.ShownBy.{ShownBy}
use Rattle.mc_lines.proofs.BehindTextLemmas.{are_indented-leaks_behind_text}
use Rattle.mc_shown.proofs.NameListLemmas.{are_indented-also_missed_text, are_indented-wanted_text}
use Rattle.mc_lines.proofs.IndentedLemmas.{are_indented-causes_text, are_indented-deeper_causes_text}
use Rattle.mc_lines.proofs.IndentedLemmas.{are_indented-search_text}
use Rattle.mc_json.specs.FlowData.{tree_data}
use Rattle.mc_json.specs.RowData.{line_of, lan_data}
use Rattle.mc_json.proofs.EachLineLemmas.{are_object_lines-right, are_object_lines-tree}
use Rattle.mc_json_wrong.proofs.WrongObjectLemmas.{are_object_lines-wrong}
use Rattle.mc_run.specs.FlowCounts.{FlowAnswer}
use Rattle.mc_run.specs.AuditObjects.{found_travel, key_of_tree, tree_line, tree_number}
use Rattle.mc_run.specs.AuditedFiles.{AuditedValue, is_whole}
use Rattle.mc_run.specs.AuditRun.{IsFlowAnswer}
use Rattle.mc_explain.specs.ExplanationValues.{ExplanationValue}
use Rattle.mc_run.specs.AuditText.{events_if_shown, explanation_lines, right_line, at_flow_ttl_text}
use Rattle.mc_run.specs.AuditText.{behind_text, found_flow_line, searched_lines, second_behind_text}
use Rattle.mc_run.specs.AuditText.{shown_by_text, shown_from_text}
use Rattle.mc_run.specs.AuditFlowText.{answer_lines, is_hidden, right_lines_or_object, wrong_lines_or_object}
use Rattle.mc_cli.specs.declared.audit_options.AuditOptions.{AuditOptions}
use Rattle.mc_shown.proofs.LineFeedLemmas.{number, no_feed-from_list_all, no_feed-append}
use Rattle.mc_commands.proofs.VerdictLines.{AreLinesWithoutYes, no_yes_line-append, no_yes_line-if}
use Rattle.mc_commands.proofs.VerdictLines.{no_yes_line-no_lines, no_yes_line-text_line}
use Rattle.mc_run.proofs.LinesWithoutYes.{finding_text-no_yes, no_yes_line-events_if_shown}
use Rattle.mc_run.proofs.LinesWithoutYes.{no_yes_line-found_flow_line, no_yes_line-indented_lines}
use Rattle.mc_run.proofs.LinesWithoutYes.{no_yes_line-objects, no_yes_line-right_line}

-- the line of a tree, if it wasn't printed before
no_yes_line-tree_line : (d : DomainFacts) (printed : List Tree) (flow : ℕ) (es : Tree)
    → AreLinesWithoutYes (tree_line d printed flow es)
no_yes_line-tree_line d printed flow es =
    no_yes_line-if (is_some (find_tree printed (key_of_tree d flow es))) []
    (line_of (tree_data d.topology (d.nets flow) es (length printed))) no_yes_line-no_lines
    (no_yes_line-objects _ (are_object_lines-tree d.topology (d.nets flow) es (length printed)))

-- the lines of a right flow, in text or in JSON
no_yes_line-right_lines_or_object : (json whole : Bool) (d : DomainFacts) (printed : List Tree)
    (flow : ℕ)
    (es : Tree) (wanted : List ℕ) → IsValidTopology d.topology
    → AreLinesWithoutYes (right_lines_or_object json whole d printed flow es wanted)
no_yes_line-right_lines_or_object true whole d printed flow es wanted ok =
    no_yes_line-append (tree_line d printed flow es) _ (no_yes_line-tree_line d printed flow es)
    (no_yes_line-objects _ (are_object_lines-right whole flow (flow_at d.topology flow) (length es)
    (tree_number d printed flow es) (map (lan_data d.topology) wanted)))
no_yes_line-right_lines_or_object false whole d printed flow es wanted ok =
    let t = d.topology in
    no_yes_line-append (right_line whole t (flow_at t flow) (length es)) (wanted_text t wanted)
    (no_yes_line-right_line whole t (flow_at t flow) (length es) ok)
    (no_yes_line-indented_lines (wanted_text t wanted) (are_indented-wanted_text t wanted ok))

-- the line on the TTL from which on packets show a fault, after an indent of two spaces and more
no_yes_line-shown_from_text : (more : List ℕ) (shown_from : Option ℕ) → HasNoByte 10 more
    → AreLinesWithoutYes (shown_from_text (codes "  " ++ more) shown_from)
no_yes_line-shown_from_text more None none = no_yes_line-no_lines
no_yes_line-shown_from_text more (Some ttl) none =
    let begin = codes "  " in
    let words = codes "shown by packets sent with ttl " in
    let last = codes " or more" in
    let line = words ++ (decimal ttl ++ last) in
    no_yes_line-text_line (shown_from_text (begin ++ more) (Some ttl)) (begin ++ (more ++ line)) (refl, refl)
    (no_feed-append begin (more ++ line) (no_feed-from_list_all begin refl)
    (no_feed-append more line none
    (no_feed-append words (decimal ttl ++ last) (no_feed-from_list_all words refl)
    (no_feed-append (decimal ttl) last (number ttl) (no_feed-from_list_all last refl)))))
    (ap (λ xs. begin ++ (more ++ (words ++ xs))) (sym (append_assoc (decimal ttl) last (codes "\n")))
    ∙ ap (λ xs. begin ++ xs) (sym (append_assoc more line (codes "\n"))))

-- the line on what the flow's own TTL shows
no_yes_line-at_flow_ttl_text : (t : TopologyValue) (ttl : ℕ) (found : Option Finding) → IsValidTopology t
    → AreLinesWithoutYes (at_flow_ttl_text t ttl found)
no_yes_line-at_flow_ttl_text t ttl None ok = no_yes_line-no_lines
no_yes_line-at_flow_ttl_text t ttl (Some found) ok =
    let begin = codes "  with this flow's ttl " in
    let colon = codes ": " in
    let words = finding_text t found in
    no_yes_line-text_line (at_flow_ttl_text t ttl (Some found)) (begin ++ (decimal ttl ++ (colon ++ words)))
    (refl, refl)
    (no_feed-append begin _ (no_feed-from_list_all begin refl)
    (no_feed-append (decimal ttl) _ (number ttl)
    (no_feed-append colon words (no_feed-from_list_all colon refl) (finding_text-no_yes t found ok))))
    (ap (λ xs. begin ++ xs) (ap (λ xs. decimal ttl ++ xs) (sym (append_assoc colon words (codes "\n")))
    ∙ sym (append_assoc (decimal ttl) (colon ++ words) (codes "\n"))))

-- neither of the lines on the packets that show a finding says yes
no_yes_line-shown_by_text : (t : TopologyValue) (ttl : ℕ) (shown_by : ShownBy) → IsValidTopology t
    → AreLinesWithoutYes (shown_by_text t ttl shown_by)
no_yes_line-shown_by_text t ttl shown_by ok =
    no_yes_line-append (shown_from_text (codes "  ") shown_by.from)
    (at_flow_ttl_text t ttl shown_by.at_flow_ttl)
    (no_yes_line-shown_from_text [] shown_by.from (no_feed-from_list_all [] refl))
    (no_yes_line-at_flow_ttl_text t ttl shown_by.at_flow_ttl ok)

-- the second copy behind a stray, with its causes
no_yes_line-second_behind : (d : DomainFacts) (summary : List SummaryValue) (flow : ℕ) (causes : List Cause)
    (shown_from : Option ℕ) (found : Option Finding) → IsValidTopology d.topology
    → AreLinesWithoutYes (second_behind_text d summary flow causes shown_from found)
no_yes_line-second_behind d summary flow causes shown_from None ok = no_yes_line-no_lines
no_yes_line-second_behind d summary flow causes shown_from (Some found) ok =
    let begin = codes "  behind it: " in
    let words = finding_text d.topology found in
    let line = begin ++ (words ++ codes "\n") in
    let shown = shown_from_text (codes "    ") shown_from in
    let more = deeper_causes_text d summary flow causes ++ shown in
    let first = no_yes_line-text_line line (begin ++ words) (refl, refl)
    (no_feed-append begin words (no_feed-from_list_all begin refl) (finding_text-no_yes d.topology found ok))
    (sym (append_assoc begin words (codes "\n"))) in
    let spaces = codes "  " in
    let rest = no_yes_line-append (deeper_causes_text d summary flow causes) shown
    (no_yes_line-indented_lines _ (are_indented-deeper_causes_text d summary flow causes ok))
    (no_yes_line-shown_from_text spaces shown_from (no_feed-from_list_all spaces refl)) in
    subst AreLinesWithoutYes (append_assoc begin (words ++ codes "\n") more
    ∙ ap (λ xs. begin ++ xs) (append_assoc words (codes "\n") more)) (no_yes_line-append line more first rest)

-- all that is behind a stray
no_yes_line-behind_text : (d : DomainFacts) (summary : List SummaryValue) (flow : ℕ) (behind : Option Behind)
    → IsValidTopology d.topology → AreLinesWithoutYes (behind_text d summary flow behind)
no_yes_line-behind_text d summary flow None ok = no_yes_line-no_lines
no_yes_line-behind_text d summary flow (Some b) ok =
    no_yes_line-append (second_behind_text d summary flow b.causes.items b.shown_from b.finding)
    (leaks_behind_text d b.strays.items b.open_routers.items b.missed.items)
    (no_yes_line-second_behind d summary flow b.causes.items b.shown_from b.finding ok)
    (no_yes_line-indented_lines _ (are_indented-leaks_behind_text d b.strays.items b.open_routers.items
    b.missed.items ok))

-- the lines of an explanation
no_yes_line-explanation_lines : (d : DomainFacts) (summary : List SummaryValue) (flow : ℕ)
    (x : ExplanationValue) → IsValidTopology d.topology → AreLinesWithoutYes
    (explanation_lines d summary flow x)
no_yes_line-explanation_lines d summary flow x ok =
    no_yes_line-append (causes_text d summary flow x.printed) _
    (no_yes_line-indented_lines _ (are_indented-causes_text d summary flow x.printed ok))
    (no_yes_line-append (searched_lines d summary flow x.search) _ (searched x.search)
    (no_yes_line-append (also_missed_text d.topology x.also) (behind_text d summary flow x.behind)
    (no_yes_line-indented_lines _ (are_indented-also_missed_text d.topology x.also ok))
    (no_yes_line-behind_text d summary flow x.behind ok)))
  where
    searched : (s : Option LanSearch) → AreLinesWithoutYes (searched_lines d summary flow s)
    searched None = no_yes_line-no_lines
    searched (Some found) = no_yes_line-indented_lines _
        (are_indented-search_text d summary flow found ok)

-- the lines of a flow with a finding, in text or in JSON
no_yes_line-wrong_lines_or_object : (json travels : Bool) (d : DomainFacts)
    (summary : List SummaryValue) (flow : ℕ)
    (ttl : ℕ) (travel : Travel) (x : ExplanationValue) → IsValidTopology d.topology
    → AreLinesWithoutYes (wrong_lines_or_object json travels d summary flow ttl travel x)
no_yes_line-wrong_lines_or_object true travels d summary flow ttl travel x ok =
    no_yes_line-objects _
    (are_object_lines-wrong d summary (found_travel travels flow ttl travel) x)
no_yes_line-wrong_lines_or_object false travels d summary flow ttl travel x ok =
    let t = d.topology in
    no_yes_line-append (found_flow_line t (flow_at t flow) x.certainty.known travel.finding) _
    (no_yes_line-found_flow_line t (flow_at t flow) x.certainty.known travel.finding ok)
    (no_yes_line-append (shown_by_text t (flow_at t flow).ttl x.certainty.shown_by) _
    (no_yes_line-shown_by_text t (flow_at t flow).ttl x.certainty.shown_by ok)
    (no_yes_line-append (explanation_lines d summary flow x) (events_if_shown travels t travel)
    (no_yes_line-explanation_lines d summary flow x ok) (no_yes_line-events_if_shown travels t travel ok)))

-- the lines of a flow's answer
no_yes_line-answer_lines : (o : AuditOptions) (whole : Bool) (d : DomainFacts) (summary : List SummaryValue)
    (printed : List Tree) (flow : ℕ) (x : Examined) (e : ExplanationValue) (wanted : List ℕ)
    → IsValidTopology d.topology
    → AreLinesWithoutYes (answer_lines o whole d summary printed flow x e wanted)
no_yes_line-answer_lines o whole d summary printed flow (Certified entries) e wanted ok =
    no_yes_line-if (is_hidden o.faults wanted) []
    (right_lines_or_object o.json whole d printed flow entries.items wanted) no_yes_line-no_lines
    (no_yes_line-right_lines_or_object o.json whole d printed flow entries.items wanted ok)
no_yes_line-answer_lines o whole d summary printed flow (Found ttl travel) e wanted ok =
    no_yes_line-wrong_lines_or_object o.json o.travels d summary flow ttl travel e ok

-- those of all answers
pub no_yes_line-all_answers : (v : AuditedValue) (o : AuditOptions) (answers : List FlowAnswer)
    → ((flow : ℕ) (a : FlowAnswer) → slice_get answers flow ≡ Some a
    → (printed : List Tree) × (number : ℕ) × IsFlowAnswer v o printed number a)
    → IsValidTopology v.domain.topology → AreLinesWithoutYes (flat_map (λ a. a.lines) answers)
no_yes_line-all_answers v o [] each ok = no_yes_line-no_lines
no_yes_line-all_answers v o (a ∷ answers) each ok =
    let first = each 0 a refl in
    let is = first.2 in
    no_yes_line-append a.lines (flat_map (λ b. b.lines) answers)
    (subst AreLinesWithoutYes (sym is.spelled) (no_yes_line-answer_lines o (is_whole v)
    (facts v.domain) v.summary first.0
    first.1 a.examined is.explanation a.wanted ok))
    (no_yes_line-all_answers v o answers (λ flow b at. each (suc flow) b at) ok)
