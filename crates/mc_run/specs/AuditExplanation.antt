-- The explanation of a flow's finding in an audit (docs/FORMATS.md, "The explanation of a finding"), by the
-- flights that the flow's travels ended with. `whole` is true where no router is excluded.
use Rattle.std.specs.Prelude.{◌≡◌, ◌==◌, ℕ, Bool, true, false, not, nat_lt, List, [], filter, Option}
use Rattle.std.specs.Prelude.{Some, None, if◌then◌else◌}
use Rattle.mc_tables.specs.Summary.{SummaryValue}
use Rattle.mc_theory.specs.Events.{Event}
use Rattle.mc_theory.specs.Findings.{Finding as FindingValue, first_copy_on}
use Rattle.mc_theory.specs.Flights.{Copy}
use Rattle.mc_theory.specs.Nets.{Net}
use Rattle.mc_forward.specs.Domains.{DomainValue, net_of, ttl_of}
use Rattle.mc_forward.specs.ListedTables.{DomainFacts, facts}
use Rattle.mc_replay.specs.FindingValues.{finding_value}
use Rattle.mc_replay.specs.declared.finding.Finding.{Finding}
use Rattle.mc_replay.specs.declared.finding.Finding.TheVariants.{Clean, Duplicate, Loop, Stray, Missed}
use Rattle.mc_replay.specs.declared.travel.Travel.{Travel}
use Rattle.mc_maker.specs.Examined.{IsFirstPickTravel}
use Rattle.mc_maker.specs.declared.examined_flights.ExaminedFlights.{ExaminedFlights}
use Rattle.mc_maker.specs.declared.examined_flights.ExaminedFlights.TheVariants.{Certified, FoundAtTtl255}
use Rattle.mc_maker.specs.declared.examined_flights.ExaminedFlights.TheVariants.{FoundAtFlowTtl}
use Rattle.mc_explain.specs.Behind.{IsBehind}
use Rattle.mc_explain.specs.Explained.{IsExplained}
use Rattle.mc_explain.specs.declared.causes.behind.Behind.{Behind}
use Rattle.mc_explain.specs.ShownNeed.{IsShownFromIfAny}
use Rattle.mc_search.specs.SearchReach.{IsLanSearch, name_excluded_router}
use Rattle.mc_search.specs.SearchLine.{Search}
use Rattle.mc_shown.specs.WantedText.{missed_besides}
use Rattle.mc_search.specs.declared.searching.LanSearch.{LanSearch}
use Rattle.mc_explain.specs.declared.causes.Cause.{Cause}
use Rattle.mc_explain.specs.declared.causes.explanation.ShownBy.{ShownBy}
use Rattle.mc_explain.specs.declared.causes.Cause.TheVariants.{Circle, LeastTtl, OnlyEverySource}
use Rattle.mc_explain.specs.declared.causes.Cause.TheVariants.{SentOnto, StoppedAt, TakeOut, Unplaced}
use Rattle.mc_explain.specs.ExplanationValues.{ExplanationValue}

-- the other LANs that the packet of the printed finding missed
abbrev pub also_missed : DomainFacts → (flow : ℕ) → ExaminedFlights → List ℕ
also_missed domain flow (Certified entries) = []
also_missed domain flow (FoundAtTtl255 ended) =
    missed_besides domain flow ended.flight.flight.carried ended.travel.finding
also_missed domain flow (FoundAtFlowTtl greatest least) =
    missed_besides domain flow least.flight.flight.carried least.travel.finding

-- what a search reads for a flow, of whose packet these are the carried copies; the marked routers are
-- excluded
abbrev pub search_context : DomainFacts → List SummaryValue → (excluded : List Bool) → (flow : ℕ) → List Copy
    → Search
search_context domain summary excluded flow copies = record {
  domain = domain;
  flow = flow;
  summary = summary;
  excluded = excluded;
  first_copy_on = first_copy_on copies;
}

-- This is the search for the LAN of the finding, if a LAN is missed; there is none for another finding.
abbrev pub IsSearchIfMissed : Search → List Event → Finding → Option LanSearch → Type 0
IsSearchIfMissed search events (Missed lan) (Some found) = IsLanSearch search events lan found
IsSearchIfMissed search events (Missed lan) None = ⊥
IsSearchIfMissed search events Clean found = found ≡ None
IsSearchIfMissed search events (Duplicate lan) found = found ≡ None
IsSearchIfMissed search events (Loop lan) found = found ≡ None
IsSearchIfMissed search events (Stray router vif) found = found ≡ None

-- This is the search for the LAN that a packet with TTL 255 missed, if it missed one.
abbrev pub IsSearchAt255 : DomainFacts → List SummaryValue → (excluded : List Bool) → (flow : ℕ)
    → ExaminedFlights → Option LanSearch → Type 0
IsSearchAt255 domain summary excluded flow (Certified entries) search = search ≡ None
IsSearchAt255 domain summary excluded flow (FoundAtTtl255 ended) search =
    IsSearchIfMissed (search_context domain summary excluded flow ended.flight.flight.carried)
    ended.travel.events.items ended.travel.finding search
IsSearchAt255 domain summary excluded flow (FoundAtFlowTtl greatest least) search = search ≡ None

-- whether a cause is a remedy: it names an outgoing vif to take out of an entry
abbrev pub is_remedy : Cause → Bool
is_remedy (TakeOut lan router vif least) = true
is_remedy (SentOnto lan router vif) = false
is_remedy (Circle from onto router vif) = false
is_remedy (Unplaced router vif) = false
is_remedy (OnlyEverySource router vif) = false
is_remedy (LeastTtl lan least) = false
is_remedy (StoppedAt router vif threshold ttl) = false

-- The causes, but without remedies where a router is excluded: that router may need what a remedy takes away.
abbrev pub without_remedies : (whole : Bool) → List Cause → List Cause
without_remedies true printed = printed
without_remedies false printed = filter (λ cause. not (is_remedy cause)) printed

-- These are the causes of an examined flow that are printed.
pub record ArePrintedCauses (whole : Bool) (domain : DomainValue) (flow : ℕ) (flights : ExaminedFlights)
    (printed : List Cause) : Type 0 where
  pub all : List Cause
  pub explained : IsExplained domain flow flights all
  pub shown : printed ≡ without_remedies whole all

-- Whether it is known that a flow with a finding isn't right. With routers excluded it isn't known where a
-- LAN is missed and its search comes to one of them, which may send the LAN a copy. A second copy and a stray
-- are there whatever the excluded routers have.
abbrev pub is_known_wrong : (whole : Bool) → Option LanSearch → Bool
is_known_wrong true search = true
is_known_wrong false None = true
is_known_wrong false (Some found) = not (name_excluded_router found.lines.items)

-- This is the TTL from which on packets show the finding. None is given where `greatest` is true: the flow's
-- own TTL is 255.
abbrev pub IsShownFromUnless : (greatest : Bool) → Net → List Copy → FindingValue → Option ℕ → Type 0
IsShownFromUnless true net copies finding shown = shown ≡ None
IsShownFromUnless false net copies finding shown = IsShownFromIfAny net copies finding shown

-- This is the TTL from which on packets show what is found of a packet with TTL 255. None is given for what
-- is found of one with the flow's own TTL.
abbrev pub IsShownFromAt255 : DomainValue → (flow : ℕ) → ExaminedFlights → Option ℕ → Type 0
IsShownFromAt255 domain flow (Certified entries) shown = shown ≡ None
IsShownFromAt255 domain flow (FoundAtTtl255 ended) shown = IsShownFromUnless (ttl_of domain flow == 255)
    (net_of domain flow) ended.flight.flight.carried (finding_value ended.travel.finding) shown
IsShownFromAt255 domain flow (FoundAtFlowTtl greatest least) shown = shown ≡ None

-- ---- what a packet with the flow's own TTL meets

-- What an audit prints of the finding of a packet with the flow's own TTL: the finding, where no router is
-- excluded; otherwise only a second copy or a stray, which is there whatever the excluded routers have.
abbrev pub certain_finding : (whole : Bool) → Finding → Option Finding
certain_finding whole Clean = if whole then Some Clean else None
certain_finding whole (Missed lan) = if whole then Some (Missed lan) else None
certain_finding whole (Duplicate lan) = Some (Duplicate lan)
certain_finding whole (Loop lan) = Some (Loop lan)
certain_finding whole (Stray router vif) = Some (Stray router vif)

-- This is what is printed of the travel of a packet with the flow's own TTL in which the first waiting copy
-- is handled each time.
pub record IsFoundAtFlowTtl (whole : Bool) (domain : DomainValue) (flow : ℕ)
    (found : Option Finding) : Type 0 where
  pub travel : Travel
  pub runs : IsFirstPickTravel domain flow (ttl_of domain flow) travel
  pub certain : found ≡ certain_finding whole travel.finding

-- This is what is printed of that travel: nothing, unless the flow's own TTL is less than the one from which
-- on packets show the finding (`less`).
abbrev pub IsFoundAtFlowTtlIf : (less whole : Bool) → DomainValue → (flow : ℕ) → Option Finding → Type 0
IsFoundAtFlowTtlIf true whole domain flow found = IsFoundAtFlowTtl whole domain flow found
IsFoundAtFlowTtlIf false whole domain flow found = found ≡ None

-- This is what is printed of that travel, by the TTL from which on packets show the finding, if that is
-- given.
abbrev pub IsFoundBelow : (whole : Bool) → DomainValue → (flow : ℕ) → (shown_from : Option ℕ)
    → Option Finding → Type 0
IsFoundBelow whole domain flow None found = found ≡ None
IsFoundBelow whole domain flow (Some least) found =
    IsFoundAtFlowTtlIf (nat_lt (ttl_of domain flow) least) whole domain flow found

-- These are the packets that show the finding, and what one with the flow's own TTL meets.
pub record IsShownBy (whole : Bool) (domain : DomainValue) (flow : ℕ) (flights : ExaminedFlights)
    (shown_by : ShownBy) : Type 0 where
  pub from : IsShownFromAt255 domain flow flights shown_by.from
  pub below : IsFoundBelow whole domain flow shown_by.from shown_by.at_flow_ttl

-- ---- what is behind a stray

-- This is what is behind the stray, if the finding of a packet with TTL 255 is one.
abbrev pub IsBehindIfStray : (whole : Bool) → DomainValue → (flow : ℕ) → Finding → Option Behind → Type 0
IsBehindIfStray whole domain flow (Stray router vif) None = ⊥
IsBehindIfStray whole domain flow (Stray router vif) (Some behind) =
    IsBehind whole domain flow (router, vif) behind
IsBehindIfStray whole domain flow Clean behind = behind ≡ None
IsBehindIfStray whole domain flow (Duplicate lan) behind = behind ≡ None
IsBehindIfStray whole domain flow (Loop lan) behind = behind ≡ None
IsBehindIfStray whole domain flow (Missed lan) behind = behind ≡ None

-- This is what is behind the stray that the examination found, if it found one. A packet with the flow's own
-- TTL makes no stray where one with TTL 255 makes none.
abbrev pub IsBehindAt255 : (whole : Bool) → DomainValue → (flow : ℕ) → ExaminedFlights
    → Option Behind → Type 0
IsBehindAt255 whole domain flow (Certified entries) behind = behind ≡ None
IsBehindAt255 whole domain flow (FoundAtTtl255 ended) behind =
    IsBehindIfStray whole domain flow ended.travel.finding behind
IsBehindAt255 whole domain flow (FoundAtFlowTtl greatest least) behind = behind ≡ None

-- This is the explanation of the finding of a domain's flow, by the flights of its travels.
pub record IsExplanation (domain : DomainValue) (summary : List SummaryValue) (excluded : List Bool)
    (whole : Bool) (flow : ℕ) (flights : ExaminedFlights) (explanation : ExplanationValue) : Type 0 where
  pub printed : ArePrintedCauses whole domain flow flights explanation.printed
  pub search : IsSearchAt255 (facts domain) summary excluded flow flights explanation.search
  pub also : explanation.also ≡ also_missed (facts domain) flow flights
  pub behind : IsBehindAt255 whole domain flow flights explanation.behind
  pub known : explanation.certainty.known ≡ is_known_wrong whole explanation.search
  pub shown : IsShownBy whole domain flow flights explanation.certainty.shown_by
