-- The causes of a finding, the search for a missed LAN and the other missed LANs are determined by the
-- flights.
use Rattle.std.proofs.Common.{◌≡◌, ℕ, Bool, List, Option, Some, None, refl, sym, ap₂, subst, ◌∙◌}
use Rattle.std.specs.Prelude.{⊤}
use Rattle.mc_tables.specs.Summary.{SummaryValue}
use Rattle.mc_theory.specs.Events.{Event, events}
use Rattle.mc_theory.specs.Findings.{finding}
use Rattle.mc_theory.specs.Flights.{Flight}
use Rattle.mc_forward.specs.Domains.{DomainValue, net_of}
use Rattle.mc_forward.specs.ListedTables.{DomainFacts}
use Rattle.mc_replay.specs.FindingValues.{finding_value}
use Rattle.mc_replay.specs.declared.finding.Finding.{Finding}
use Rattle.mc_replay.specs.declared.finding.Finding.TheVariants.{Clean, Duplicate, Loop, Stray, Missed}
use Rattle.mc_replay.specs.declared.travel.FinishedTravel.{FinishedTravel}
use Rattle.mc_maker.specs.declared.examined_flights.ExaminedFlights.{ExaminedFlights}
use Rattle.mc_maker.specs.declared.examined_flights.ExaminedFlights.TheVariants.{Certified, FoundAtTtl255}
use Rattle.mc_maker.specs.declared.examined_flights.ExaminedFlights.TheVariants.{FoundAtFlowTtl}
use Rattle.mc_explain.specs.Explained.{ExplainsAtFlowTtl, ExplainsFinding, IsExplained}
use Rattle.mc_search.specs.SearchLine.{Search}
use Rattle.mc_shown.specs.WantedText.{missed_besides}
use Rattle.mc_search.specs.declared.searching.LanSearch.{LanSearch}
use Rattle.mc_explain.specs.declared.causes.Cause.{Cause}
use Rattle.mc_run.specs.AuditExplanation.{IsSearchAt255, IsSearchIfMissed, also_missed, search_context}
use Rattle.mc_run.proofs.UniqueTravel.{IsSameFinishedTravel}
use Rattle.mc_run.proofs.UniqueExamination.{HaveSameFlights}

-- the same flights have the same causes
pub is_explained-same_flights : (d : DomainValue) (flow : ℕ) (a b : ExaminedFlights)
    (printed : List Cause) → HaveSameFlights a b
    → IsExplained d flow a printed → IsExplained d flow b printed
is_explained-same_flights d flow (Certified xs) (Certified ys) printed same is = is
is_explained-same_flights d flow (FoundAtTtl255 a) (FoundAtTtl255 b) printed same is =
    let n = net_of d flow in
    let flight = subst (λ (f : Flight). ExplainsFinding n f (finding_value a.travel.finding) printed)
    same.flight is in
    subst (λ (x : Finding). ExplainsFinding n b.flight.flight (finding_value x) printed) same.finding
    flight
is_explained-same_flights d flow (FoundAtFlowTtl a b) (FoundAtFlowTtl c e) printed same is =
    let n = net_of d flow in
    let greatest = subst (λ (f : Flight).
    ExplainsAtFlowTtl n f b.flight.flight (finding_value b.travel.finding) printed) same.0.flight is in
    let least = subst (λ (f : Flight).
    ExplainsAtFlowTtl n c.flight.flight f (finding_value b.travel.finding) printed) same.1.flight
    greatest in
    subst (λ (x : Finding).
    ExplainsAtFlowTtl n c.flight.flight e.flight.flight (finding_value x) printed) same.1.finding least
is_explained-same_flights d flow (Certified xs) (FoundAtTtl255 b) printed same is = absurd same
is_explained-same_flights d flow (Certified xs) (FoundAtFlowTtl b c) printed same is = absurd same
is_explained-same_flights d flow (FoundAtTtl255 a) (Certified ys) printed same is = absurd same
is_explained-same_flights d flow (FoundAtTtl255 a) (FoundAtFlowTtl b c) printed same is = absurd same
is_explained-same_flights d flow (FoundAtFlowTtl a b) (Certified ys) printed same is = absurd same
is_explained-same_flights d flow (FoundAtFlowTtl a b) (FoundAtTtl255 c) printed same is = absurd same

-- Two searches are the same.
abbrev pub HaveSameSearch : Option LanSearch → Option LanSearch → Type 0
HaveSameSearch None None = ⊤
HaveSameSearch (Some a) (Some b) =
    (a.lines.items ≡ b.lines.items) × (a.reach.sent_on.items ≡ b.reach.sent_on.items)
    × (a.reach.took_none.items ≡ b.reach.took_none.items)
HaveSameSearch _ _ = ⊥

-- two that aren't there
is_search-none : (a b : Option LanSearch) → a ≡ None → b ≡ None → HaveSameSearch a b
is_search-none None None p q = tt
is_search-none None (Some b) p q = absurd cc
is_search-none (Some a) None p q = absurd cc
is_search-none (Some a) (Some b) p q = absurd cc

-- two of the same finding
is_searched-unique : (s : Search) (es : List Event) (x : Finding) (a b : Option LanSearch)
    → IsSearchIfMissed s es x a → IsSearchIfMissed s es x b → HaveSameSearch a b
is_searched-unique s es Clean a b p q = is_search-none a b p q
is_searched-unique s es (Duplicate lan) a b p q = is_search-none a b p q
is_searched-unique s es (Loop lan) a b p q = is_search-none a b p q
is_searched-unique s es (Stray router vif) a b p q = is_search-none a b p q
is_searched-unique s es (Missed lan) None b p q = absurd p
is_searched-unique s es (Missed lan) (Some a) None p q = absurd q
is_searched-unique s es (Missed lan) (Some a) (Some b) p q =
    (p.lines ∙ sym q.lines, p.sent_on ∙ sym q.sent_on, p.took_none ∙ sym q.took_none)

-- two of the same flights
pub is_search_if_missed-unique : (d : DomainFacts) (summary : List SummaryValue) (excluded : List Bool)
    (flow : ℕ)
    (a b : ExaminedFlights) (s t : Option LanSearch) → HaveSameFlights a b
    → IsSearchAt255 d summary excluded flow a s
    → IsSearchAt255 d summary excluded flow b t → HaveSameSearch s t
is_search_if_missed-unique d summary excluded flow (Certified xs) (Certified ys) s t same p q =
    is_search-none s t p q
is_search_if_missed-unique d summary excluded flow (FoundAtTtl255 a) (FoundAtTtl255 b) s t same p q =
    let by = λ (f : Flight). search_context d summary excluded flow f.carried in
    let flight = subst (λ (f : Flight).
    IsSearchIfMissed (by f) a.travel.events.items a.travel.finding s) same.flight p in
    let seen = subst (λ (es : List Event).
    IsSearchIfMissed (by b.flight.flight) es a.travel.finding s) same.events flight in
    let found = subst (λ (x : Finding).
    IsSearchIfMissed (by b.flight.flight) b.travel.events.items x s) same.finding seen in
    is_searched-unique (by b.flight.flight) b.travel.events.items b.travel.finding s t found q
is_search_if_missed-unique d summary excluded flow (FoundAtFlowTtl a b) (FoundAtFlowTtl c e) s t
    same p q = is_search-none s t p q
is_search_if_missed-unique d summary excluded flow (Certified xs) (FoundAtTtl255 b) s t same p q = absurd same
is_search_if_missed-unique d summary excluded flow (Certified xs) (FoundAtFlowTtl b c) s t same p q
    = absurd same
is_search_if_missed-unique d summary excluded flow (FoundAtTtl255 a) (Certified ys) s t same p q = absurd same
is_search_if_missed-unique d summary excluded flow (FoundAtTtl255 a) (FoundAtFlowTtl b c) s t same p
    q = absurd same
is_search_if_missed-unique d summary excluded flow (FoundAtFlowTtl a b) (Certified ys) s t same p q
    = absurd same
is_search_if_missed-unique d summary excluded flow (FoundAtFlowTtl a b) (FoundAtTtl255 c) s t same p
    q = absurd same

-- the same copies miss the same LANs besides
missed_besides-same_copies : (d : DomainFacts) (flow : ℕ) (a b : FinishedTravel) → IsSameFinishedTravel a b
    → missed_besides d flow a.flight.flight.carried a.travel.finding
    ≡ missed_besides d flow b.flight.flight.carried b.travel.finding
missed_besides-same_copies d flow a b same =
    ap₂ (λ (f : Flight) (x : Finding). missed_besides d flow f.carried x) same.flight same.finding

-- the same flights miss the same other LANs
pub also_missed-same_flights : (d : DomainFacts) (flow : ℕ) (a b : ExaminedFlights) → HaveSameFlights a b
    → also_missed d flow a ≡ also_missed d flow b
also_missed-same_flights d flow (Certified xs) (Certified ys) same = refl
also_missed-same_flights d flow (FoundAtTtl255 a) (FoundAtTtl255 b) same =
    missed_besides-same_copies d flow a b same
also_missed-same_flights d flow (FoundAtFlowTtl a b) (FoundAtFlowTtl c e) same =
    missed_besides-same_copies d flow b e same.1
also_missed-same_flights d flow (Certified xs) (FoundAtTtl255 b) same = absurd same
also_missed-same_flights d flow (Certified xs) (FoundAtFlowTtl b c) same = absurd same
also_missed-same_flights d flow (FoundAtTtl255 a) (Certified ys) same = absurd same
also_missed-same_flights d flow (FoundAtTtl255 a) (FoundAtFlowTtl b c) same = absurd same
also_missed-same_flights d flow (FoundAtFlowTtl a b) (Certified ys) same = absurd same
also_missed-same_flights d flow (FoundAtFlowTtl a b) (FoundAtTtl255 c) same = absurd same
