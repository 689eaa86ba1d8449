-- The explanation of a finding, and its lines.
use Rattle.std.proofs.Common.{◌≡◌, ℕ, ◌<◌, Bool, true, false, not, filter, List, ◌++◌, length, Option}
use Rattle.std.proofs.Common.{None, Some, Result, Ok, arith, Err, refl, sym, ap, ap₂, subst, ◌∙◌}
use Rattle.std.proofs.Common.{append_assoc, eq-eqb}
use Rattle.std.specs.Prelude.{◌≢◌, IfOk, OnOk, codes}
use Rattle.std.proofs.lemmas.Bool.{lt-ltb, ne_eqb}
use Rattle.mc_topology.specs.declared.flow.Flow.{Flow}
use Rattle.mc_topology.specs.Topology.{TopologyValue, flow_at}
use Rattle.mc_theory.specs.Findings.{IsTravel}
use Rattle.mc_theory.specs.Flights.{start}
use Rattle.mc_forward.specs.Domains.{DomainValue, net_of, ttl_of}
use Rattle.mc_forward.specs.FlightsInDomain.{FlowOfDomain, net_in}
use Rattle.mc_forward.specs.ListedTables.{DomainFacts, facts}
use Rattle.mc_replay.specs.FindingValues.{finding_value}
use Rattle.mc_replay.specs.declared.finding.Finding.{Finding}
use Rattle.mc_replay.specs.declared.finding.Finding.TheVariants.{Missed}
use Rattle.mc_replay.specs.declared.travel.FinishedTravel.{FinishedTravel}
use Rattle.mc_replay.specs.declared.travel.Travel.{Travel}
use Rattle.mc_replay.specs.Travels.{first_choices}
use Rattle.mc_replay.specs.Travels.{IsRunOfChoices, replay_of}
use Rattle.mc_maker.specs.ExaminedFlights.{IsFinishedTravelOf, HasExaminedFlights}
use Rattle.mc_maker.specs.declared.examined_flights.ExaminedFlights.{ExaminedFlights}
use Rattle.mc_maker.specs.declared.examined_flights.ExaminedFlights.TheVariants.{FoundAtTtl255}
use Rattle.mc_maker.specs.declared.examined_flights.ExaminedFlights.TheVariants.{FoundAtFlowTtl}
use Rattle.mc_replay.specs.TravelText.{finding_text}
use Rattle.mc_tables.specs.Summary.{SummaryValue}
use Rattle.mc_lines.specs.ExplanationText.{causes_text, deeper_causes_text}
use Rattle.mc_explain.specs.ShownNeed.{IsShownFromIfAny}
use Rattle.mc_shown.specs.WantedText.{missed_besides, also_missed_text}
use Rattle.mc_search.specs.declared.searching.LanSearch.{LanSearch}
use Rattle.mc_explain.specs.declared.causes.Cause.{Cause}
use Rattle.mc_explain.specs.declared.causes.behind.Behind.{Behind}
use Rattle.mc_explain.specs.declared.causes.explanation.ShownBy.{ShownBy}
use Rattle.mc_run.specs.AuditFlowText.{wrong_flow_lines}
use Rattle.mc_cli.specs.declared.audit_options.AuditOptions.{AuditOptions}
use Rattle.mc_run.specs.AuditPieces.{also_missed_of, explanation_in}
use Rattle.mc_run.specs.AuditExplanation.{IsExplanation, IsSearchIfMissed, ArePrintedCauses, is_remedy}
use Rattle.mc_run.specs.AuditExplanation.{IsShownFromAt255, IsShownFromUnless, certain_finding}
use Rattle.mc_run.specs.AuditExplanation.{is_known_wrong, search_context, without_remedies}
use Rattle.mc_run.specs.AuditExplanation.{IsBehindIfStray, IsFoundBelow, IsFoundAtFlowTtlIf, IsShownBy}
use Rattle.mc_run.specs.AuditedFiles.{AuditedValue, excluded, is_whole}
use Rattle.mc_explain.specs.ExplanationValues.{ExplanationValue}
use Rattle.mc_run.specs.AuditText.{behind_text, events_if_shown, explanation_lines, searched_lines}
use Rattle.mc_run.specs.AuditText.{found_flow_line, second_behind_text, shown_by_text, shown_from_text}
use Rattle.mc_run.specs.AuditText.{wrong_lines}
use Rattle.mc_run.proofs.MissedLemmas.{missed_lan-below_count}

-- ---- a search

-- the LAN that a travel misses is one of the domain
pub missed_lan-of_domain : (d : DomainValue) (flow ttl lan : ℕ) (ended : FinishedTravel)
    → IsFinishedTravelOf d flow ttl ended
    → ended.travel.finding ≡ Missed lan → lan < length d.topology.lans
missed_lan-of_domain d flow ttl lan ended has same =
    let n = net_of d flow in
    let count = length d.topology.lans in
    let run = has.run in
    missed_lan-below_count n count first_choices.numbers first_choices.last run.picks (start n ttl) lan
    (subst (λ (x : Finding). IsTravel n count first_choices.numbers first_choices.last run.picks
    (start n ttl) (finding_value x)) same run.travel)

-- ---- the explanation

-- a finished travel of the flow is one in the domain
pub is_finished_travel-at_255 : (d : DomainValue) (flow : ℕ) (x : ExaminedFlights)
    (ended : FinishedTravel) → x ≡ FoundAtTtl255 ended
    → HasExaminedFlights d flow x → IsFinishedTravelOf d flow 255 ended
is_finished_travel-at_255 d flow x ended same has_flights =
    subst (λ (y : ExaminedFlights). HasExaminedFlights d flow y) same has_flights

-- the flights of a finding at the flow's own TTL hold a finished travel of a packet with that TTL
pub is_finished_travel-at_flow_ttl : (d : DomainValue) (flow : ℕ) (x : ExaminedFlights)
    (greatest least : FinishedTravel)
    → x ≡ FoundAtFlowTtl greatest least → HasExaminedFlights d flow x
    → IsFinishedTravelOf d flow (net_of d flow).ttl least
is_finished_travel-at_flow_ttl d flow x greatest least same has_flights =
    (let both : HasExaminedFlights d flow (FoundAtFlowTtl greatest least) =
    subst (λ (y : ExaminedFlights). HasExaminedFlights d flow y) same has_flights in both.2)

-- the other missed LANs are those of the domain's flow
missed_besides-domain_flow : (d : DomainValue) (flow ttl : ℕ) (ended : FinishedTravel)
    → IsFinishedTravelOf d flow ttl ended
    → missed_besides (facts ended.flight.domain) ended.flight.flow ended.flight.flight.carried
    ended.travel.finding
    ≡ missed_besides (facts d) flow ended.flight.flight.carried ended.travel.finding
missed_besides-domain_flow d flow ttl ended has =
    let cs = ended.flight.flight.carried in
    let x = ended.travel.finding in
    ap (λ (e : DomainValue). missed_besides (facts e) ended.flight.flow cs x) has.domain
    ∙ ap (λ (n : ℕ). missed_besides (facts d) n cs x) has.flow_of_flight

-- with excluded routers the causes that are no remedies are the ones to print
pub without_remedies-filtered : (whole : Bool) (printed kept : List Cause) → whole ≡ false
    → kept ≡ filter (λ t. not (is_remedy t)) printed → kept ≡ without_remedies whole printed
without_remedies-filtered true printed kept part same = absurd cc
without_remedies-filtered false printed kept part same = same

-- from which TTL on packets show the finding isn't said where the flow's TTL is 255,
pub is_shown_from-greatest : (d : DomainValue) (flow ttl : ℕ) (view : FlowOfDomain) (ended : FinishedTravel)
    → view ≡ record { domain = d; flow = flow } → ttl ≡ (net_in view).ttl → ttl ≡ 255
    → IsShownFromAt255 d flow (FoundAtTtl255 ended) None
is_shown_from-greatest d flow ttl view ended same is greatest =
    let own : ttl_of d flow ≡ 255 = sym (is ∙ ap (λ (w : FlowOfDomain). (net_in w).ttl) same) ∙ greatest in
    subst (λ (b : Bool). IsShownFromUnless b (net_of d flow) ended.flight.flight.carried
    (finding_value ended.travel.finding) None) (sym (eq-eqb (ttl_of d flow) 255 own)) refl

-- where the flow's own TTL is less than 255, the TTL that was found is the one to print
pub is_shown_from-less : {X : Type 0} (d : DomainValue) (flow ttl : ℕ) (view : FlowOfDomain)
    (ended : FinishedTravel) (r : Result (Option ℕ) X) → view ≡ record { domain = d; flow = flow }
    → ttl ≡ (net_in view).ttl → ttl ≢ 255
    → IfOk r (IsShownFromIfAny (net_of d flow) ended.flight.flight.carried
    (finding_value ended.travel.finding))
    → IfOk r (λ shown. IsShownFromAt255 d flow (FoundAtTtl255 ended) shown)
is_shown_from-less d flow ttl view ended (Err e) same is less found = tt
is_shown_from-less d flow ttl view ended (Ok shown) same is less found =
    let own : ttl_of d flow ≢ 255 =
    λ e. less (is ∙ ap (λ (w : FlowOfDomain). (net_in w).ttl) same ∙ e) in
    subst (λ (b : Bool). IsShownFromUnless b (net_of d flow) ended.flight.flight.carried
    (finding_value ended.travel.finding) shown) (sym (ne_eqb (ttl_of d flow) 255 own)) found

-- the parts are an explanation of a finding at TTL 255
pub is_explanation-at_255 : (v : AuditedValue) (flow : ℕ) (x : ExaminedFlights)
    (ended : FinishedTravel) (printed : List Cause)
    (found : Option LanSearch) (behind : Option Behind) (shown_by : ShownBy) → x ≡ FoundAtTtl255 ended
    → HasExaminedFlights v.domain flow x
    → ArePrintedCauses (is_whole v) v.domain flow x printed
    → IsSearchIfMissed (search_context (facts v.domain) v.summary (excluded v) flow
    ended.flight.flight.carried)
    ended.travel.events.items ended.travel.finding found
    → IsBehindIfStray (is_whole v) v.domain flow ended.travel.finding behind
    → IsShownBy (is_whole v) v.domain flow (FoundAtTtl255 ended) shown_by
    → IsExplanation v.domain v.summary (excluded v) (is_whole v) flow x
    (explanation_in (is_whole v) ended printed found behind shown_by)
is_explanation-at_255 v flow x ended printed found behind shown_by same has_flights why search past shown =
    subst (λ (y : ExaminedFlights). IsExplanation v.domain v.summary (excluded v) (is_whole v) flow y
    (explanation_in (is_whole v) ended printed found behind shown_by)) (sym same) (record {
      printed = subst (λ (y : ExaminedFlights). ArePrintedCauses (is_whole v) v.domain flow y
          printed) same why;
      search = search;
      also = missed_besides-domain_flow v.domain flow 255 ended
          (is_finished_travel-at_255 v.domain flow x ended same has_flights);
      behind = past;
      known = refl;
      shown = shown;
    })

-- of a finding at the flow's own TTL it isn't said which packets show it
abbrev pub unsaid : ShownBy
unsaid = record { from = None; at_flow_ttl = None }

-- the parts are an explanation of such a finding
pub is_explanation-at_flow_ttl : (v : AuditedValue) (flow : ℕ) (x : ExaminedFlights)
    (greatest least : FinishedTravel)
    (printed : List Cause) → x ≡ FoundAtFlowTtl greatest least → HasExaminedFlights v.domain flow x
    → ArePrintedCauses (is_whole v) v.domain flow x printed
    → IsExplanation v.domain v.summary (excluded v) (is_whole v) flow x
    (explanation_in (is_whole v) least printed None None unsaid)
is_explanation-at_flow_ttl v flow x greatest least printed same has_flights why =
    subst (λ (y : ExaminedFlights). IsExplanation v.domain v.summary (excluded v) (is_whole v) flow y
    (explanation_in (is_whole v) least printed None None unsaid)) (sym same) (record {
      printed = subst (λ (y : ExaminedFlights). ArePrintedCauses (is_whole v) v.domain flow y
          printed) same why;
      search = refl;
      also = missed_besides-domain_flow v.domain flow (net_of v.domain flow).ttl least
          (is_finished_travel-at_flow_ttl v.domain flow x greatest least same has_flights);
      behind = refl;
      known = refl;
      shown = record { from = refl; below = refl };
    })

-- ---- its lines

-- texts one after another, however they are grouped
regrouped_behind : (old begin words feed causes shown : List ℕ)
    → ((old ++ (begin ++ (words ++ feed))) ++ causes) ++ shown
    ≡ old ++ (begin ++ (words ++ (feed ++ (causes ++ shown))))
regrouped_behind old begin words feed causes shown = simp append_assoc

-- the line of a second copy behind a stray, its causes and the packets that show it, appended one after
-- another, are its text
pub second_behind-pushed : {A X : Type 0} (d : DomainFacts) (summary : List SummaryValue)
    (flow : ℕ) (b : Behind)
    (t : TopologyValue) (x shown : Finding) (causes : List Cause) (r : Result A X) (old one two new : List ℕ)
    → t ≡ d.topology → shown ≡ x → b.finding ≡ Some x → causes ≡ b.causes.items
    → one ≡ old ++ (codes "  behind it: " ++ (finding_text t shown ++ codes "\n"))
    → two ≡ one ++ deeper_causes_text d summary flow causes
    → OnOk r (new ≡ two ++ shown_from_text (codes "    ") b.shown_from)
    → OnOk r (new ≡ old ++ second_behind_text d summary flow b.causes.items b.shown_from b.finding)
second_behind-pushed d summary flow b t x shown causes (Err e) old one two new same is some are first
    second third = tt
second_behind-pushed d summary flow b t x shown causes (Ok a) old one two new same is some are first
    second third =
    let begin = codes "  behind it: " in
    let feed = codes "\n" in
    let last = shown_from_text (codes "    ") b.shown_from in
    let lines = deeper_causes_text d summary flow b.causes.items in
    let words : finding_text t shown ≡ finding_text d.topology x = ap₂ finding_text same is in
    let line : one ≡ old ++ (begin ++ (finding_text d.topology x ++ feed)) =
    first ∙ ap (λ (xs : List ℕ). old ++ (begin ++ (xs ++ feed))) words in
    third
    ∙ ap (λ (xs : List ℕ). xs ++ last) (second ∙ ap₂ (λ (xs : List ℕ) (cs : List Cause). xs
    ++ deeper_causes_text d summary flow cs) line are)
    ∙ regrouped_behind old begin (finding_text d.topology x) feed lines last
    ∙ ap (λ (o : Option Finding). old ++ second_behind_text d summary flow b.causes.items b.shown_from o)
    (sym some)

-- the causes, the search, the other missed LANs and what is behind a stray, appended one after another, are
-- the explanation
pub explanation_lines-pushed : {A X : Type 0} (v : AuditedValue) (flow : ℕ) (e : ExplanationValue)
    (t : TopologyValue) (r : Result A X) (old one two three new : List ℕ) → t ≡ v.domain.topology
    → one ≡ old ++ causes_text (facts v.domain) v.summary flow e.printed
    → two ≡ one ++ searched_lines (facts v.domain) v.summary flow e.search
    → three ≡ two ++ also_missed_text t e.also
    → OnOk r (new ≡ three ++ behind_text (facts v.domain) v.summary flow e.behind)
    → OnOk r (new ≡ old ++ explanation_lines (facts v.domain) v.summary flow e)
explanation_lines-pushed v flow e t (Err x) old one two three new same first second third fourth = tt
explanation_lines-pushed v flow e t (Ok a) old one two three new same first second third fourth =
    let lines = causes_text (facts v.domain) v.summary flow e.printed in
    let search = searched_lines (facts v.domain) v.summary flow e.search in
    let missed = also_missed_text v.domain.topology e.also in
    let past = behind_text (facts v.domain) v.summary flow e.behind in
    let also : three ≡ two ++ missed =
    third ∙ ap (λ (u : TopologyValue). two ++ also_missed_text u e.also) same in
    fourth ∙ ap (λ xs. xs ++ past) also
    ∙ ap (λ xs. (xs ++ missed) ++ past) second ∙ ap (λ xs. ((xs ++ search) ++ missed) ++ past) first
    ∙ append_assoc ((old ++ lines) ++ search) missed past
    ∙ append_assoc (old ++ lines) search (missed ++ past)
    ∙ append_assoc old lines (search ++ (missed ++ past))

-- the finding, the packets that show it, the explanation and the events, appended one after another, are the
-- lines of the flow
pub wrong_lines-pushed : {A X : Type 0} (v : AuditedValue) (flow : ℕ) (travels : Bool) (travel : Travel)
    (e : ExplanationValue) (t : TopologyValue) (f : Flow) (r : Result A X) (old one two three new : List ℕ)
    → t ≡ v.domain.topology → f ≡ flow_at v.domain.topology flow
    → one ≡ old ++ found_flow_line t f e.certainty.known travel.finding
    → two ≡ one ++ shown_by_text t f.ttl e.certainty.shown_by
    → three ≡ two ++ explanation_lines (facts v.domain) v.summary flow e
    → OnOk r (new ≡ three ++ events_if_shown travels t travel)
    → OnOk r (new ≡ old ++ wrong_lines travels (facts v.domain) v.summary flow travel e)
wrong_lines-pushed v flow travels travel e t f (Err x) old one two three new same listed first second third
    fourth = tt
wrong_lines-pushed v flow travels travel e t f (Ok a) old one two three new same listed first second third
    fourth =
    let begun = found_flow_line v.domain.topology (flow_at v.domain.topology flow) e.certainty.known
    travel.finding in
    let ttl = (flow_at v.domain.topology flow).ttl in
    let from = shown_by_text v.domain.topology ttl e.certainty.shown_by in
    let why = explanation_lines (facts v.domain) v.summary flow e in
    let events = events_if_shown travels v.domain.topology travel in
    let puts : one ≡ old ++ begun =
    first ∙ ap (λ (u : TopologyValue). old ++ found_flow_line u f e.certainty.known travel.finding) same
    ∙ ap (λ (h : Flow). old ++ found_flow_line v.domain.topology h e.certainty.known travel.finding) listed in
    let shows : two ≡ one ++ from =
    second ∙ ap₂ (λ (u : TopologyValue) (h : Flow). one ++ shown_by_text u h.ttl e.certainty.shown_by) same
    listed in
    fourth ∙ ap (λ (u : TopologyValue). three ++ events_if_shown travels u travel) same
    ∙ ap (λ xs. xs ++ events) third ∙ ap (λ xs. (xs ++ why) ++ events) shows
    ∙ ap (λ xs. ((xs ++ from) ++ why) ++ events) puts
    ∙ append_assoc ((old ++ begun) ++ from) why events
    ∙ append_assoc (old ++ begun) from (why ++ events) ∙ append_assoc old begun (from ++ (why ++ events))

-- an explanation by its parts
abbrev pub explanation_with : List Cause → Option LanSearch → (also : List ℕ) → Option Behind → (known : Bool)
    → ShownBy → ExplanationValue
explanation_with causes found also behind known shown_by = record {
  printed = causes;
  search = found;
  also = also;
  behind = behind;
  certainty = record { known = known; shown_by = shown_by };
}

-- the lines of a finding are the same by the LANs that its travel also missed, and by whether it is then
-- known that the flow is wrong
pub wrong_flow_lines-same_parts : (v : AuditedValue) (o : AuditOptions) (flow ttl : ℕ)
    (ended : FinishedTravel) (causes : List Cause) (found : Option LanSearch) (behind : Option Behind)
    (shown_by : ShownBy) (also : List ℕ) (whole known : Bool) (old new : List ℕ) → also ≡ also_missed_of ended
    → whole ≡ is_whole v → known ≡ is_known_wrong whole found
    → new ≡ old ++ wrong_flow_lines o (facts v.domain) v.summary flow ttl ended.travel
    (explanation_with causes found also behind known shown_by)
    → new ≡ old ++ wrong_flow_lines o (facts v.domain) v.summary flow ttl ended.travel
    (explanation_in (is_whole v) ended causes found behind shown_by)
wrong_flow_lines-same_parts v o flow ttl ended causes found behind shown_by also whole known old
    new same all is
    puts = puts ∙ ap₂ (λ (lans : List ℕ) (b : Bool). old ++ wrong_flow_lines o (facts v.domain) v.summary flow
    ttl ended.travel (explanation_with causes found lans behind b shown_by)) same
    (is ∙ ap (λ (b : Bool). is_known_wrong b found) all)

-- ---- what a packet with the flow's own TTL meets

-- where the flow's own TTL is less than the one from which on packets show the finding, the finding of a
-- packet with it is printed as far as it is certain
pub is_found_below-less : (whole part : Bool) (d : DomainValue) (flow ttl k : ℕ) (from : Option ℕ)
    (travel : Travel)
    → ttl ≡ ttl_of d flow → from ≡ Some k → ttl < k → part ≡ whole
    → IsRunOfChoices (replay_of d flow ttl first_choices) travel
    → IsFoundBelow whole d flow from (certain_finding part travel.finding)
is_found_below-less whole part d flow ttl k from travel own some lt all runs =
    subst (λ (o : Option ℕ). IsFoundBelow whole d flow o (certain_finding part travel.finding)) (sym some)
    (subst (λ (b : Bool). IsFoundAtFlowTtlIf b whole d flow (certain_finding part travel.finding))
    (sym (lt-ltb (ttl_of d flow) k (omega (arith, own, lt)))) (record {
      travel = travel;
      runs = subst (λ (t : ℕ). IsRunOfChoices (replay_of d flow t first_choices) travel) own runs;
      certain = ap (λ (b : Bool). certain_finding b travel.finding) all;
    }))
