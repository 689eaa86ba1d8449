-- The explanation of a finding is determined by the flights of the flow's travels.
use Rattle.std.proofs.Common.{◌≡◌, ℕ, Bool, true, false, List, length, Option, Some, None, refl, sym, ap}
use Rattle.std.proofs.Common.{subst, ◌∙◌}
use Rattle.std.specs.Prelude.{◌==◌, nat_lt, not}
use Rattle.mc_tables.specs.Summary.{SummaryValue}
use Rattle.mc_theory.specs.Events.{events}
use Rattle.mc_theory.specs.Findings.{Finding as FindingValue, finding}
use Rattle.mc_theory.specs.Flights.{Copy, Flight, start}
use Rattle.mc_theory.specs.Nets.{IsNet, Net}
use Rattle.mc_theory.specs.ExcludedRouters.{IsSecondCopyOrStray}
use Rattle.mc_theory.specs.ShownFrom.{IsShownFrom}
use Rattle.mc_theory.specs.Findings.Finding.{Clean as FoundClean, Duplicate as FoundDuplicate}
use Rattle.mc_theory.specs.Findings.Finding.{Loop as FoundLoop, Stray as FoundStray}
use Rattle.mc_theory.specs.Findings.Finding.{Missed as FoundMissed}
use Rattle.mc_theory.proofs.ShownFrom.{need-unique}
use Rattle.mc_forward.specs.Domains.{DomainValue, IsDomain, net_of, ttl_of}
use Rattle.mc_forward.specs.ListedTables.{facts}
use Rattle.mc_forward.proofs.DomainLemmas.{is_net-net_of}
use Rattle.mc_replay.specs.FindingValues.{finding_value}
use Rattle.mc_replay.specs.declared.finding.Finding.{Finding}
use Rattle.mc_replay.specs.Travels.{first_choices}
use Rattle.mc_maker.specs.declared.examined_flights.ExaminedFlights.{ExaminedFlights}
use Rattle.mc_maker.specs.declared.examined_flights.ExaminedFlights.TheVariants.{Certified, FoundAtTtl255}
use Rattle.mc_maker.specs.declared.examined_flights.ExaminedFlights.TheVariants.{FoundAtFlowTtl}
use Rattle.mc_search.specs.SearchReach.{name_excluded_router}
use Rattle.mc_explain.specs.ShownNeed.{IsShownFromIfAny}
use Rattle.mc_search.specs.declared.search_line.SearchLine.{SearchLine}
use Rattle.mc_search.specs.declared.searching.LanSearch.{LanSearch}
use Rattle.mc_explain.specs.declared.causes.explanation.Certainty.{Certainty}
use Rattle.mc_explain.specs.declared.causes.explanation.ShownBy.{ShownBy}
use Rattle.mc_explain.proofs.UniqueCauseLemmas.{causes-are_unique}
use Rattle.mc_run.specs.AuditExplanation.{IsExplanation, IsFoundAtFlowTtl, IsFoundAtFlowTtlIf}
use Rattle.mc_run.specs.AuditExplanation.{IsFoundBelow, IsShownBy, IsShownFromAt255, IsShownFromUnless}
use Rattle.mc_run.specs.AuditExplanation.{certain_finding, is_known_wrong, without_remedies}
use Rattle.mc_explain.specs.ExplanationValues.{ExplanationValue}
use Rattle.mc_run.proofs.UniqueTravel.{finding_of_value, finding_value-injective, is_travel_to-unique}
use Rattle.mc_run.proofs.UniqueExamination.{HaveSameFlights}
use Rattle.mc_run.proofs.UniqueSearch.{HaveSameSearch, also_missed-same_flights}
use Rattle.mc_run.proofs.UniqueSearch.{is_explained-same_flights, is_search_if_missed-unique}
use Rattle.mc_run.proofs.UniqueBehind.{HaveSameBehind, is_behind_at_255-unique}

-- Two explanations are the same.
pub record IsSameExplanation (x y : ExplanationValue) : Type 0 where
  pub printed : x.printed ≡ y.printed
  pub search : HaveSameSearch x.search y.search
  pub also : x.also ≡ y.also
  pub behind : HaveSameBehind x.behind y.behind
  pub certainty : x.certainty ≡ y.certainty

-- by the same search it is known that the flow is wrong, or isn't
is_known_wrong-same_search : (whole : Bool) (s t : Option LanSearch) → HaveSameSearch s t
    → is_known_wrong whole s ≡ is_known_wrong whole t
is_known_wrong-same_search true s t same = refl
is_known_wrong-same_search false None None same = refl
is_known_wrong-same_search false None (Some b) same = absurd same
is_known_wrong-same_search false (Some a) None same = absurd same
is_known_wrong-same_search false (Some a) (Some b) same =
    ap (λ (ls : List SearchLine). not (name_excluded_router ls)) same.0

-- the TTL from which on packets show a finding is unique
is_shown_from-not_none : (n : Net) (cs : List Copy) (x : FindingValue) (k : ℕ) → IsShownFrom n cs x k
    → IsSecondCopyOrStray x
is_shown_from-not_none n cs FoundClean k shown = shown
is_shown_from-not_none n cs (FoundDuplicate lan) k shown = tt
is_shown_from-not_none n cs (FoundLoop lan) k shown = tt
is_shown_from-not_none n cs (FoundStray router vif) k shown = tt
is_shown_from-not_none n cs (FoundMissed lan) k shown = shown

-- or there is none
is_shown_from_if_any-unique : (n : Net) (cs : List Copy) (x : FindingValue) (s t : Option ℕ) → IsNet n
    → IsShownFromIfAny n cs x s → IsShownFromIfAny n cs x t → s ≡ t
is_shown_from_if_any-unique n cs x None None net p q = refl
is_shown_from_if_any-unique n cs x None (Some k) net p q = absurd (p (is_shown_from-not_none n cs x k q))
is_shown_from_if_any-unique n cs x (Some k) None net p q = absurd (q (is_shown_from-not_none n cs x k p))
is_shown_from_if_any-unique n cs x (Some k) (Some m) net p q = ap Some (need-unique n cs x k m net p q)

-- nor is there one where the flow's TTL is the greatest
is_shown_from_unless-unique : (greatest : Bool) (n : Net) (cs : List Copy) (x : FindingValue) (s t : Option ℕ)
    → IsNet n → IsShownFromUnless greatest n cs x s → IsShownFromUnless greatest n cs x t → s ≡ t
is_shown_from_unless-unique true n cs x s t net p q = p ∙ sym q
is_shown_from_unless-unique false n cs x s t net p q = is_shown_from_if_any-unique n cs x s t net p q

-- by the same flights packets show the finding from the same TTL on
is_shown_from-unique : (d : DomainValue) (flow : ℕ) (a b : ExaminedFlights) (s t : Option ℕ) → IsDomain d
    → HaveSameFlights a b → IsShownFromAt255 d flow a s → IsShownFromAt255 d flow b t → s ≡ t
is_shown_from-unique d flow (FoundAtTtl255 a) (FoundAtTtl255 b) s t ok same p q =
    let n = net_of d flow in
    let greatest = ttl_of d flow == 255 in
    is_shown_from_unless-unique greatest n b.flight.flight.carried (finding_value b.travel.finding) s t
    (is_net-net_of d flow ok) (subst (λ (f : Flight). IsShownFromUnless greatest n f.carried
    (finding_value b.travel.finding) s) same.flight (subst (λ (x : Finding). IsShownFromUnless greatest n
    a.flight.flight.carried (finding_value x) s) same.finding p)) q
is_shown_from-unique d flow (Certified xs) (Certified ys) s t ok same p q = p ∙ sym q
is_shown_from-unique d flow (FoundAtFlowTtl a b) (FoundAtFlowTtl c e) s t ok same p q = p ∙ sym q
is_shown_from-unique d flow (Certified xs) (FoundAtTtl255 b) s t ok same p q = absurd same
is_shown_from-unique d flow (Certified xs) (FoundAtFlowTtl b c) s t ok same p q = absurd same
is_shown_from-unique d flow (FoundAtTtl255 a) (Certified ys) s t ok same p q = absurd same
is_shown_from-unique d flow (FoundAtTtl255 a) (FoundAtFlowTtl b c) s t ok same p q = absurd same
is_shown_from-unique d flow (FoundAtFlowTtl a b) (Certified ys) s t ok same p q = absurd same
is_shown_from-unique d flow (FoundAtFlowTtl a b) (FoundAtTtl255 c) s t ok same p q = absurd same

-- what is printed of a packet with the flow's own TTL is determined, since its travel is
is_found_at_flow_ttl-unique : (whole : Bool) (d : DomainValue) (flow : ℕ) (s t : Option Finding)
    → IsFoundAtFlowTtl whole d flow s → IsFoundAtFlowTtl whole d flow t → s ≡ t
is_found_at_flow_ttl-unique whole d flow s t p q =
    let n = net_of d flow in
    let same = is_travel_to-unique n (length d.topology.lans) first_choices (start n (ttl_of d flow)) p.runs.0
    q.runs.0 p.travel.events.items q.travel.events.items (finding_value p.travel.finding)
    (finding_value q.travel.finding) p.runs.1 q.runs.1 in
    let finding : p.travel.finding ≡ q.travel.finding = sym (finding_value-injective p.travel.finding)
    ∙ ap finding_of_value same.2 ∙ finding_value-injective q.travel.finding in
    p.certain ∙ ap (certain_finding whole) finding ∙ sym q.certain

-- so it is where it is printed only if that TTL is less than another
is_found_at_flow_ttl_if-unique : (less whole : Bool) (d : DomainValue) (flow : ℕ) (s t : Option Finding)
    → IsFoundAtFlowTtlIf less whole d flow s → IsFoundAtFlowTtlIf less whole d flow t → s ≡ t
is_found_at_flow_ttl_if-unique true whole d flow s t p q = is_found_at_flow_ttl-unique whole d flow s t p q
is_found_at_flow_ttl_if-unique false whole d flow s t p q = p ∙ sym q

-- so it is by the TTL from which on packets show the finding, if one is given
is_found_below-unique : (whole : Bool) (d : DomainValue) (flow : ℕ) (from : Option ℕ) (s t : Option Finding)
    → IsFoundBelow whole d flow from s → IsFoundBelow whole d flow from t → s ≡ t
is_found_below-unique whole d flow None s t p q = p ∙ sym q
is_found_below-unique whole d flow (Some k) s t p q =
    is_found_at_flow_ttl_if-unique (nat_lt (ttl_of d flow) k) whole d flow s t p q

-- by the same flights the same packets show the finding
is_shown_by-unique : (whole : Bool) (d : DomainValue) (flow : ℕ) (a b : ExaminedFlights) (s t : ShownBy)
    → IsDomain d → HaveSameFlights a b → IsShownBy whole d flow a s → IsShownBy whole d flow b t → s ≡ t
is_shown_by-unique whole d flow a b s t ok same p q =
    let from = is_shown_from-unique d flow a b s.from t.from ok same p.from q.from in
    let below = is_found_below-unique whole d flow t.from s.at_flow_ttl t.at_flow_ttl
    (subst (λ (o : Option ℕ). IsFoundBelow whole d flow o s.at_flow_ttl) from p.below) q.below in
    λ i. record { from = from i; at_flow_ttl = below i }

-- two are the same by their parts
same_certainty : (x y : Certainty) → x.known ≡ y.known → x.shown_by ≡ y.shown_by → x ≡ y
same_certainty x y known shown = λ i. record { known = known i; shown_by = shown i }

-- two explanations by the same flights agree in each part
pub is_explanation-unique : (d : DomainValue) (summary : List SummaryValue) (excluded : List Bool)
    (whole : Bool) (flow : ℕ) (a b : ExaminedFlights) (x y : ExplanationValue) → IsDomain d
    → HaveSameFlights a b → IsExplanation d summary excluded whole flow a x
    → IsExplanation d summary excluded whole flow b y
    → IsSameExplanation x y
is_explanation-unique d summary excluded whole flow a b x y ok same p q =
    let search = is_search_if_missed-unique (facts d) summary excluded flow a b x.search y.search same
    p.search q.search in record {
      printed = p.printed.shown
          ∙ ap (without_remedies whole) (causes-are_unique d flow b p.printed.all q.printed.all
          (is_net-net_of d flow ok)
          (is_explained-same_flights d flow a b p.printed.all same p.printed.explained) q.printed.explained)
          ∙ sym q.printed.shown;
      search = search;
      also = p.also ∙ also_missed-same_flights (facts d) flow a b same ∙ sym q.also;
      behind = is_behind_at_255-unique whole d flow a b x.behind y.behind same p.behind q.behind;
      certainty = same_certainty x.certainty y.certainty
          (p.known ∙ is_known_wrong-same_search whole x.search y.search search ∙ sym q.known)
          (is_shown_by-unique whole d flow a b x.certainty.shown_by y.certainty.shown_by ok same
          p.shown q.shown);
    }
