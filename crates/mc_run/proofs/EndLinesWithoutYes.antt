-- The lines of an audit after those of the flows: none before the verdict says yes.
use Rattle.std.proofs.Common.{◌≡◌, ℕ, Bool, true, false, List, [], ◌∷◌, ◌++◌, length, Option, Some, None}
use Rattle.std.proofs.Common.{refl, sym, ap, subst, ◌∙◌, append_assoc}
use Rattle.std.specs.Prelude.{◌==◌, ◌&&◌, not, codes, slice_get, decimal, flat_map}
use Rattle.mc_text.proofs.ByteLemmas.{HasNoByte}
use Rattle.mc_topology.specs.Topology.{TopologyValue, IsValidTopology}
use Rattle.mc_tables.specs.Summary.{SummaryValue}
use Rattle.mc_forward.specs.ListedTables.{flow_pairs}
use Rattle.mc_asked.specs.ListWants.{Want}
use Rattle.mc_asked.specs.declared.forwarding.RouterState.{RouterState}
use Rattle.mc_shown.specs.AskedText.{IsAskedLine, asked_more_text, listed_sources, services_text}
use Rattle.mc_shown.specs.ExcludedText.{IsExcludedLine, excluded_text, excluded_lines}
use Rattle.mc_theory.specs.Lists.{below}
use Rattle.mc_shown.specs.UnlistedLines.{AreLines, IsUnlistedLine}
use Rattle.mc_shown.specs.UnlistedText.{unlisted_text}
use Rattle.mc_shown.specs.RoutersForWant.{routers_by_state}
use Rattle.mc_shown.proofs.AskedLineLemmas.{are_asked_lines-asked_more, are_asked_lines-asked_text}
use Rattle.mc_shown.proofs.AskedLineLemmas.{are_asked_lines-services}
use Rattle.mc_shown.proofs.ExcludedLemmas.{are_indented-excluded_text, are_excluded_lines-excluded_lines}
use Rattle.mc_shown.proofs.UnlistedLineLemmas.{are_unlisted_lines-unlisted_text}
use Rattle.mc_input.specs.AskedOfFiles.{UnansweredWantsValue}
use Rattle.mc_json.specs.AskedData.{asked_more_line, asked_services_line}
use Rattle.mc_json.specs.EndData.{summary_data, unlisted_lines, without_line}
use Rattle.mc_json.specs.RowData.{line_of}
use Rattle.mc_json.proofs.EachLineLemmas.{are_object_lines-asked, are_object_lines-asked_more}
use Rattle.mc_json.proofs.EachLineLemmas.{are_object_lines-asked_services, are_object_lines-summary}
use Rattle.mc_json.proofs.EachLineLemmas.{are_object_lines-all_unlisted, are_object_lines-without}
use Rattle.mc_run.specs.AuditAsked.{asked_end, asked_line_of, asked_lines, numbered_asked_line}
use Rattle.mc_run.specs.AuditAsked.{states_of_line}
use Rattle.mc_run.specs.FlowCounts.{count}
use Rattle.mc_run.specs.AuditEnd.{end_text_or_objects, strict_lines, strict_line, summary_line}
use Rattle.mc_run.specs.AuditEnd.{summary_of_flows, end_objects, end_text}
use Rattle.mc_cli.specs.declared.audit_options.AuditOptions.{AuditOptions}
use Rattle.mc_shown.proofs.LineFeedLemmas.{number, no_feed-from_list_all, no_feed-append}
use Rattle.mc_commands.proofs.VerdictLines.{AreLinesWithoutYes, BeginsWithOtherByte, no_yes_line-append}
use Rattle.mc_commands.proofs.VerdictLines.{no_yes_line-if, no_yes_line-no_lines, no_yes_line-text_line}
use Rattle.mc_run.proofs.LinesWithoutYes.{begins-excluded_line, begins-row_line}
use Rattle.mc_run.proofs.LinesWithoutYes.{no_yes_line-indented_lines, no_yes_line-lines}
use Rattle.mc_run.proofs.LinesWithoutYes.{no_yes_line-objects}

-- ---- after the flows

-- whatever the counts, the summary before its line feed
summary_line-before_line_feed : (a b c d e f : List ℕ)
    → (codes "summary flows " ++ (a ++ (codes " right " ++ (b ++ (codes " wrong " ++ (c
    ++ (codes " unknown " ++ (d ++ (codes " unwanted " ++ e)))))))))
    ++ (codes " asked " ++ (f ++ codes "\n"))
    ≡ ((codes "summary flows " ++ (a ++ (codes " right " ++ (b ++ (codes " wrong " ++ (c
    ++ (codes " unknown " ++ (d ++ (codes " unwanted " ++ e)))))))))
    ++ (codes " asked " ++ f)) ++ codes "\n"
summary_line-before_line_feed a b c d e f = simp append_assoc

-- a number, and words before it
no_feed-number_after : (words : List ℕ) (n : ℕ) (more : List ℕ) → HasNoByte 10 words → HasNoByte 10 more
    → HasNoByte 10 (words ++ (decimal n ++ more))
no_feed-number_after words n more none rest =
    no_feed-append words _ none (no_feed-append (decimal n) more (number n) rest)

-- a number after words
no_feed-last_number : (words : List ℕ) (n : ℕ) → HasNoByte 10 words → HasNoByte 10 (words ++ decimal n)
no_feed-last_number words n none = no_feed-append words (decimal n) none (number n)

-- the numbers of flows in the summary
no_feed-summary_of_flows : (flows right wrong unknown unwanted : ℕ)
    → HasNoByte 10 (summary_of_flows flows right wrong unknown unwanted)
no_feed-summary_of_flows flows right wrong unknown unwanted =
    no_feed-number_after (codes "summary flows ") flows _
    (no_feed-from_list_all (codes "summary flows ") refl)
    (no_feed-number_after (codes " right ") right _ (no_feed-from_list_all (codes " right ") refl)
    (no_feed-number_after (codes " wrong ") wrong _ (no_feed-from_list_all (codes " wrong ") refl)
    (no_feed-number_after (codes " unknown ") unknown _ (no_feed-from_list_all (codes " unknown ") refl)
    (no_feed-last_number (codes " unwanted ") unwanted (no_feed-from_list_all (codes " unwanted ") refl)))))

-- the summary
no_yes_line-summary_line : (flows right wrong unknown unwanted asked : ℕ)
    → AreLinesWithoutYes (summary_line flows right wrong unknown unwanted asked)
no_yes_line-summary_line flows right wrong unknown unwanted asked =
    no_yes_line-text_line (summary_line flows right wrong unknown unwanted asked)
    (summary_of_flows flows right wrong unknown unwanted ++ (codes " asked " ++ decimal asked))
    (refl, refl)
    (no_feed-append (summary_of_flows flows right wrong unknown unwanted) (codes " asked " ++ decimal asked)
    (no_feed-summary_of_flows flows right wrong unknown unwanted)
    (no_feed-last_number (codes " asked ") asked (no_feed-from_list_all (codes " asked ") refl)))
    (summary_line-before_line_feed (decimal flows) (decimal right) (decimal wrong) (decimal unknown)
    (decimal unwanted) (decimal asked))

-- a line on what a strict audit fails for, if it is there
no_yes_line-strict_line : (fails : Bool) (n : ℕ) (words : List ℕ) → HasNoByte 10 words
    → AreLinesWithoutYes (strict_line fails n words)
no_yes_line-strict_line fails n words none =
    let last = words ++ codes ", status 1" in
    let ends : (decimal n ++ (words ++ codes ", status 1\n")) ≡ (decimal n ++ last) ++ codes "\n" =
    ap (λ xs. decimal n ++ xs) (sym (append_assoc words (codes ", status 1") (codes "\n")))
    ∙ sym (append_assoc (decimal n) last (codes "\n")) in
    no_yes_line-if (fails && not (n == 0))
    (codes "  strict: " ++ (decimal n ++ (words ++ codes ", status 1\n"))) []
    (no_yes_line-text_line _ (codes "  strict: " ++ (decimal n ++ last)) (refl, refl)
    (no_feed-number_after (codes "  strict: ") n last (no_feed-from_list_all (codes "  strict: ") refl)
    (no_feed-append words (codes ", status 1") none (no_feed-from_list_all (codes ", status 1") refl)))
    (ap (λ xs. codes "  strict: " ++ xs) ends))
    no_yes_line-no_lines

-- neither of the two lines on the option strict says yes
no_yes_line-strict_lines : (strict all : Bool) (unwanted asked : ℕ)
    → AreLinesWithoutYes (strict_lines strict all unwanted asked)
no_yes_line-strict_lines strict all unwanted asked =
    no_yes_line-append (strict_line (strict && all) unwanted (codes " flows that nobody wants")) _
    (no_yes_line-strict_line (strict && all) unwanted (codes " flows that nobody wants")
    (no_feed-from_list_all (codes " flows that nobody wants") refl))
    (no_yes_line-strict_line (strict && all) asked (codes " wants that no flow answers")
    (no_feed-from_list_all (codes " wants that no flow answers") refl))

-- ---- what hosts ask for

-- a line on what hosts ask for begins otherwise than a yes
begins-asked_line : (l : List ℕ) → IsAskedLine l → BeginsWithOtherByte l
begins-asked_line l (rest, begins) = subst BeginsWithOtherByte (sym begins) (refl, refl)

-- lines on what hosts ask for begin with another byte than a yes, so that no text of them says yes
no_yes_line-asked_text : (text : List ℕ) → AreLines IsAskedLine text → AreLinesWithoutYes text
no_yes_line-asked_text text are = no_yes_line-lines IsAskedLine text begins-asked_line are

-- the line of a want, in text or in JSON
no_yes_line-asked_line_of : (json : Bool) (t : TopologyValue) (are_excluded : Bool)
    (states : List RouterState) (line : Option (Want × List ℕ)) → IsValidTopology t
    → AreLinesWithoutYes (asked_line_of json t are_excluded states line)
no_yes_line-asked_line_of json t are_excluded states None ok = no_yes_line-no_lines
no_yes_line-asked_line_of true t are_excluded states (Some line) ok =
    no_yes_line-objects _ (are_object_lines-asked t line (listed_sources (flow_pairs t.flows) line.0.0)
    (routers_by_state states))
no_yes_line-asked_line_of false t are_excluded states (Some line) ok =
    no_yes_line-asked_text _ (are_asked_lines-asked_text t are_excluded (flow_pairs t.flows) states line ok)

-- the further wants and the services
no_yes_line-asked_end : (json : Bool) (t : TopologyValue) (a : UnansweredWantsValue)
    → AreLinesWithoutYes (asked_end json t a)
no_yes_line-asked_end true t a =
    no_yes_line-append (asked_more_line a.further) (asked_services_line t a.services)
    (no_yes_line-objects _ (are_object_lines-asked_more a.further))
    (no_yes_line-objects _ (are_object_lines-asked_services t a.services))
no_yes_line-asked_end false t a =
    no_yes_line-append (asked_more_text a.further) (services_text a.services)
    (no_yes_line-asked_text _ (are_asked_lines-asked_more a.further))
    (no_yes_line-asked_text _ (are_asked_lines-services a.services))

-- lines for each of these numbers
no_yes_line-flat_map : (f : ℕ → List ℕ) (xs : List ℕ) → ((x : ℕ) → AreLinesWithoutYes (f x))
    → AreLinesWithoutYes (flat_map f xs)
no_yes_line-flat_map f [] each = no_yes_line-no_lines
no_yes_line-flat_map f (x ∷ xs) each =
    no_yes_line-append (f x) (flat_map f xs) (each x) (no_yes_line-flat_map f xs each)

-- all lines on what hosts ask for
no_yes_line-asked_lines : (json : Bool) (t : TopologyValue) (are_excluded : Bool) (a : UnansweredWantsValue)
    → IsValidTopology t → AreLinesWithoutYes (asked_lines json t are_excluded a)
no_yes_line-asked_lines json t are_excluded a ok =
    no_yes_line-append (flat_map (numbered_asked_line json t are_excluded a) (below (length a.lines))) _
    (no_yes_line-flat_map (numbered_asked_line json t are_excluded a) (below (length a.lines)) (λ n.
    no_yes_line-asked_line_of json t are_excluded (states_of_line t a.states n) (slice_get a.lines n) ok))
    (no_yes_line-asked_end json t a)

-- ---- all of these

-- the lines after the flows, in text
no_yes_line-end_text : (o : AuditOptions) (t : TopologyValue) (summary : List SummaryValue)
    (asked : UnansweredWantsValue) (marks : List Bool) (whole all : Bool)
    (flows right wrong unknown unwanted : ℕ)
    → IsValidTopology t
    → AreLinesWithoutYes (end_text o t summary asked marks whole all flows right wrong unknown unwanted)
no_yes_line-end_text o t summary asked marks whole all flows right wrong unknown unwanted ok =
    no_yes_line-append (unlisted_text o.unlisted t summary) _
    (no_yes_line-lines IsUnlistedLine _ begins-row_line
    (are_unlisted_lines-unlisted_text o.unlisted t summary ok))
    (no_yes_line-append (asked_lines false t (not whole) asked) _
    (no_yes_line-asked_lines false t (not whole) asked ok)
    (no_yes_line-append (excluded_lines t marks) _
    (no_yes_line-lines IsExcludedLine _ begins-excluded_line (are_excluded_lines-excluded_lines t marks ok))
    (no_yes_line-append (summary_line flows right wrong unknown unwanted asked.count) _
    (no_yes_line-summary_line flows right wrong unknown unwanted asked.count)
    (no_yes_line-append (excluded_text t marks) (strict_lines o.strict all unwanted asked.count)
    (no_yes_line-indented_lines _ (are_indented-excluded_text t marks ok))
    (no_yes_line-strict_lines o.strict all unwanted asked.count)))))

-- in JSON
no_yes_line-end_objects : (o : AuditOptions) (t : TopologyValue) (summary : List SummaryValue)
    (asked : UnansweredWantsValue) (marks : List Bool) (whole : Bool) (right wrong unknown unwanted : ℕ)
    → IsValidTopology t
    → AreLinesWithoutYes (end_objects o t summary asked marks whole right wrong unknown unwanted)
no_yes_line-end_objects o t summary asked marks whole right wrong unknown unwanted ok =
    no_yes_line-append (unlisted_lines o.unlisted t summary) _
    (no_yes_line-objects _ (are_object_lines-all_unlisted o.unlisted t summary))
    (no_yes_line-append (asked_lines true t (not whole) asked) _
    (no_yes_line-asked_lines true t (not whole) asked ok)
    (no_yes_line-append (without_line t marks)
    (line_of (summary_data asked.count right unknown unwanted wrong))
    (no_yes_line-objects _ (are_object_lines-without t marks))
    (no_yes_line-objects _ (are_object_lines-summary asked.count right unknown unwanted wrong))))

-- in either
pub no_yes_line-end_lines : (o : AuditOptions) (t : TopologyValue) (summary : List SummaryValue)
    (asked : UnansweredWantsValue) (marks : List Bool) (whole all : Bool)
    (flows right wrong unknown unwanted : ℕ)
    → IsValidTopology t
    → AreLinesWithoutYes (end_text_or_objects o t summary asked marks whole all flows right wrong unknown
    unwanted)
no_yes_line-end_lines o t summary asked marks whole all flows right wrong unknown unwanted ok =
    no_yes_line-if o.json (end_objects o t summary asked marks whole right wrong unknown unwanted)
    (end_text o t summary asked marks whole all flows right wrong unknown unwanted)
    (no_yes_line-end_objects o t summary asked marks whole right wrong unknown unwanted ok)
    (no_yes_line-end_text o t summary asked marks whole all flows right wrong unknown unwanted ok)
