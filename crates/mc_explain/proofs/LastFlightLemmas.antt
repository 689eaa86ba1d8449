-- Properties of a travel's last flight.
use Rattle.std.proofs.Common.{◌≡◌, ℕ, ◌≤◌, Bool, true, false, cond, List, [], ◌∷◌, ◌++◌, length}
use Rattle.std.proofs.Common.{Option, Some, None, is_some, refl, ap, sym, subst, ◌∙◌, arith, inl}
use Rattle.std.proofs.Common.{append_assoc, append-nil}
use Rattle.mc_theory.specs.Lists.{In, Distinct}
use Rattle.mc_theory.specs.Nets.{IsNet}
use Rattle.mc_theory.specs.Flights.{Copy, Flight, run, start}
use Rattle.mc_theory.specs.Certificates.{lans}
use Rattle.mc_theory.specs.Findings.{Finding, first_copy_on, first_double, handles}
use Rattle.mc_theory.specs.Findings.Finding.{Clean, Duplicate, Loop, Missed}
use Rattle.mc_theory.specs.FindingMeaning.{IsFirstDouble, FirstDoubleWalk, Shows}
use Rattle.mc_theory.specs.Paths.{IsPath, PassesHops}
use Rattle.mc_theory.proofs.ListLemmas.{distinct_append-disjoint}
use Rattle.mc_theory.proofs.RunInvariant.{map-append'}
use Rattle.mc_theory.proofs.Travels.{in_lans-from_first_copy_on, first_copy_on-from_in_lans}
use Rattle.mc_theory.proofs.Travels.{in_range-travel, is_lossless-handles}
use Rattle.mc_theory.proofs.WalkBack.{in-first_copy_on}
use Rattle.mc_theory.proofs.FindingMeaning.{shows-travel_finding}
use Rattle.mc_theory.proofs.Paths.{need_at_most-from_passes}
use Rattle.mc_theory.proofs.CameByHops.{is_path-from_travel, lan-first_copy_on}
use Rattle.mc_theory.specs.Hops.{hops_of_copy}
use Rattle.mc_theory.proofs.Hops.{came_by_hops-hops_back, came_from_lan-hops_until}
use Rattle.mc_theory.proofs.EachHearerForwards.{carried-from_path}
use Rattle.mc_theory.proofs.SpareInterface.{earlier_copy-of_first_double, is_spare_interface-exists}
use Rattle.mc_forward.specs.Domains.{DomainValue, ttl_of}
use Rattle.mc_forward.specs.FlightsInDomain.{FlowOfDomain, IsFlowOfDomain, FlightInDomain, net_in}
use Rattle.mc_forward.proofs.DomainLemmas.{is_net-net_of, wants-below_lan_count, ttl-at_least_1}
use Rattle.mc_forward.proofs.DomainLemmas.{ttl-at_most_255}
use Rattle.mc_replay.specs.FindingValues.{finding_value}
use Rattle.mc_replay.specs.declared.travel.FinishedTravel.{FinishedTravel}
use Rattle.mc_maker.specs.Examined.{FindsNothing}
use Rattle.mc_maker.specs.ExaminedFlights.{IsFinishedTravelOf}
use Rattle.mc_explain.specs.LastFlights.{HasLoop, EndsTravel, HasSecondCopy, HasPath, IsOutOfReach}

-- ---- the first duplicate is found

-- a copy on a LAN without an earlier one is passed over
first_double-skip : (earlier : List Copy) (d : Copy) (cs : List Copy) (c : Copy) (test : Bool) →
    is_some (first_copy_on earlier d.lan) ≡ test → (In d.lan (lans earlier) → ⊥) →
    first_double (earlier ++ d ∷ []) cs ≡ Some c →
    cond test (Some d) (first_double (earlier ++ d ∷ []) cs) ≡ Some c
first_double-skip earlier d cs c true q other e = absurd (other (in_lans-from_first_copy_on earlier d.lan q))
first_double-skip earlier d cs c false q other e = e

-- a copy on a LAN with an earlier one is found
first_double-here : (earlier : List Copy) (c : Copy) (cs : List Copy) (test : Bool) →
    is_some (first_copy_on earlier c.lan) ≡ test → In c.lan (lans earlier) →
    cond test (Some c) (first_double (earlier ++ c ∷ []) cs) ≡ Some c
first_double-here earlier c cs true q again = refl
first_double-here earlier c cs false q again = absurd (let y = first_copy_on-from_in_lans earlier c.lan
    again in cc)

-- so the first one after distinct ones is found
first_double-after_distinct : (earlier before : List Copy) (c : Copy) (later : List Copy) →
    Distinct (lans (earlier ++ before)) → In c.lan (lans (earlier ++ before)) →
    first_double earlier (before ++ c ∷ later) ≡ Some c
first_double-after_distinct earlier [] c later once again = first_double-here earlier c later
    (is_some (first_copy_on earlier c.lan)) refl
    (subst (λ xs. In c.lan (lans xs)) (append-nil earlier) again)
first_double-after_distinct earlier (d ∷ before) c later once again =
    let lan : Copy → ℕ = λ x. x.lan in
    let both = subst Distinct (map-append' lan earlier (d ∷ before)) once in
    let same : (earlier ++ d ∷ []) ++ before ≡ earlier ++ d ∷ before =
    append_assoc earlier (d ∷ []) before in
    first_double-skip earlier d (before ++ c ∷ later) c (is_some (first_copy_on earlier d.lan)) refl
    (λ k. distinct_append-disjoint (lans earlier) (lans (d ∷ before)) both d.lan k (inl refl))
    (first_double-after_distinct (earlier ++ d ∷ []) before c later
    (subst (λ xs. Distinct (lans xs)) (sym same) once)
    (subst (λ xs. In c.lan (lans xs)) (sym same) again))

-- the first double copy is the one that is found
pub first_double-from_is_first_double : (cs : List Copy) (c : Copy) → IsFirstDouble cs c → first_double [] cs
    ≡ Some c
first_double-from_is_first_double cs c d = ap (first_double []) d.split ∙ first_double-after_distinct []
    d.earlier c d.later d.once d.again

-- ---- the last flight

-- the net of a flow of a domain has the laws of nets
pub is_net-from_is_flow_in : (f : FlowOfDomain) → IsFlowOfDomain f → IsNet (net_in f)
is_net-from_is_flow_in f ok = is_net-net_of f.domain f.flow ok.domain

-- the flight that the travel's run ends with
abbrev pub last_flight : (f : FlowOfDomain) (ttl : ℕ) (x : Finding) (j : FlightInDomain)
    → EndsTravel f ttl x j → Flight
last_flight f ttl x j e = run (net_in f) (handles e.picks) (start (net_in f) ttl)

-- it shows the travel's finding
pub shows-last_flight : (f : FlowOfDomain) (ttl : ℕ) (x : Finding) (j : FlightInDomain) → IsFlowOfDomain f →
    (e : EndsTravel f ttl x j) → Shows (net_in f) (last_flight f ttl x j e) x
shows-last_flight f ttl x j ok e = shows-travel_finding (net_in f) (length f.domain.topology.lans) ttl []
    false e.picks x
    (λ l w. wants-below_lan_count f.domain f.flow l ok.domain w) e.travel

-- a LAN's first copy has a path
pub has_path-last_flight : (f : FlowOfDomain) (ttl : ℕ) (x : Finding) (j : FlightInDomain) (lan : ℕ)
    (first : Copy) →
    IsFlowOfDomain f → (e : EndsTravel f ttl x j) →
    first_copy_on (last_flight f ttl x j e).carried lan ≡ Some first →
    HasPath (net_in f) (last_flight f ttl x j e).carried lan first
has_path-last_flight f ttl x j lan first ok e on =
    let n = net_in f in
    let count = length f.domain.topology.lans in
    let net = is_net-from_is_flow_in f ok in
    let cs = (last_flight f ttl x j e).carried in
    let first_in = in-first_copy_on cs lan first on in
    let came_by_hops = came_by_hops-hops_back n count ttl [] false e.picks x first net e.travel first_in in
    let path = is_path-from_travel n count ttl [] false e.picks x first (hops_of_copy n cs first) net e.travel
    first_in came_by_hops in
    let least = need_at_most-from_passes ttl (hops_of_copy n cs first) e.low path.1 in
    let high = e.high in
    record { on = on; came_by_hops = came_by_hops; small = omega (arith, least, high) }

-- ---- a second copy

-- a LAN with a double copy has a second copy
has_second_copy-last_flight : (f : FlowOfDomain) (ttl : ℕ) (x : Finding) (j : FlightInDomain) (lan : ℕ)
    → IsFlowOfDomain f →
    (e : EndsTravel f ttl x j) → FirstDoubleWalk (net_in f) (last_flight f ttl x j e) lan →
    HasSecondCopy (net_in f) (last_flight f ttl x j e).carried lan
has_second_copy-last_flight f ttl x j lan ok e d =
    let n = net_in f in
    let cs = (last_flight f ttl x j e).carried in
    let a = earlier_copy-of_first_double cs d.copy d.first in
    let s = is_spare_interface-exists n (length f.domain.topology.lans) ttl [] false e.picks x d.copy
    e.travel d.first
    in
    record {
      second = d.copy;
      is = record {
        is_double = d.first;
        found = first_double-from_is_first_double cs d.copy d.first;
        sender = s.0;
        sent = s.2.sender;
        first = a.0;
        path = has_path-last_flight f ttl x j d.copy.lan a.0 ok e a.1;
      };
      on = d.lan;
    }

-- so has the LAN of a duplicate
pub has_second_copy-from_duplicate : (f : FlowOfDomain) (ttl lan : ℕ) (j : FlightInDomain)
    → IsFlowOfDomain f →
    EndsTravel f ttl (Duplicate lan) j → HasSecondCopy (net_in f) j.flight.carried lan
has_second_copy-from_duplicate f ttl lan j ok e = subst (λ (g : Flight). HasSecondCopy (net_in f) g.carried
    lan)
    (sym e.ends) (has_second_copy-last_flight f ttl (Duplicate lan) j lan ok e
    (shows-last_flight f ttl (Duplicate lan) j ok e).0)

-- the first double copy of a loop came from its own LAN
pub has_loop-from_loop : (f : FlowOfDomain) (ttl lan : ℕ) (j : FlightInDomain) → IsFlowOfDomain f →
    EndsTravel f ttl (Loop lan) j → HasLoop (net_in f) j.flight.carried lan
has_loop-from_loop f ttl lan j ok e =
    let n = net_in f in
    let shows = shows-last_flight f ttl (Loop lan) j ok e in
    let has = has_second_copy-last_flight f ttl (Loop lan) j lan ok e shows.0 in
    let came_by_hops = came_from_lan-hops_until n (length f.domain.topology.lans) ttl [] false e.picks
    (Loop lan) lan
    has.second (is_net-from_is_flow_in f ok) e.travel shows has.is.is_double in
    subst (λ (g : Flight). HasLoop n g.carried lan) (sym e.ends)
    (record { has = has; came_by_hops = came_by_hops })

-- ---- a LAN that is missed only with the flow's TTL

-- what is something has a copy
some-from_is_some : (o : Option Copy) → is_some o ≡ true → (c : Copy) × (o ≡ Some c)
some-from_is_some None e = absurd cc
some-from_is_some (Some c) e = (c, refl)

-- a LAN that wants the flow has a first copy in a clean flight
pub first_copy-from_clean : (f : FlowOfDomain) (ttl lan : ℕ) (j : FlightInDomain) → IsFlowOfDomain f →
    (e : EndsTravel f ttl Clean j) → (net_in f).wants lan ≡ true →
    (first : Copy) × (first_copy_on (last_flight f ttl Clean j e).carried lan ≡ Some first)
first_copy-from_clean f ttl lan j ok e wants =
    let cs = (last_flight f ttl Clean j e).carried in
    some-from_is_some (first_copy_on cs lan)
    (first_copy_on-from_in_lans cs lan ((shows-last_flight f ttl Clean j ok e).2 lan wants))

-- packets with this TTL get through no path to a LAN that is missed
pub no_path_passes-to_missed : (f : FlowOfDomain) (ttl lan : ℕ) (j : FlightInDomain) → IsFlowOfDomain f →
    EndsTravel f ttl (Missed lan) j → (hs : _) → IsPath (net_in f) (net_in f).source hs lan →
    PassesHops ttl hs → ⊥
no_path_passes-to_missed f ttl lan j ok e hs path passes =
    let n = net_in f in
    let shows = shows-last_flight f ttl (Missed lan) j ok e in
    shows.3 (carried-from_path n ttl (handles e.picks) hs lan (is_net-from_is_flow_in f ok)
    (in_range-travel n (length f.domain.topology.lans) [] false e.picks (start n ttl) (Missed lan)
    e.travel) (is_lossless-handles e.picks) shows.1 path passes)

-- such a LAN is out of reach of the flow's TTL
pub is_out_of_reach-from_missed : (f : FlowOfDomain) (lan : ℕ) (j k : FlightInDomain) → IsFlowOfDomain f →
    EndsTravel f 255 Clean j → EndsTravel f (net_in f).ttl (Missed lan) k →
    IsOutOfReach (net_in f) j.flight.carried (net_in f).ttl lan
is_out_of_reach-from_missed f lan j k ok high low =
    let n = net_in f in
    let cs = (last_flight f 255 Clean j high).carried in
    let wants = (shows-last_flight f n.ttl (Missed lan) k ok low).2 in
    let first = first_copy-from_clean f 255 lan j ok high wants in
    let path = has_path-last_flight f 255 Clean j lan first.0 ok high first.1 in
    let leads = is_path-from_travel n (length f.domain.topology.lans) 255 [] false high.picks Clean first.0
    (hops_of_copy n cs first.0) (is_net-from_is_flow_in f ok) high.travel (in-first_copy_on cs lan first.0
    first.1) path.came_by_hops in
    let to = subst (IsPath n n.source (hops_of_copy n cs first.0)) (lan-first_copy_on cs lan first.0 first.1)
    leads.0 in
    subst (λ (g : Flight). IsOutOfReach n g.carried n.ttl lan) (sym high.ends) (record {
      first = first.0;
      path = path;
      stopped = no_path_passes-to_missed f n.ttl lan k ok low (hops_of_copy n cs first.0) to;
    })

-- ---- finished travels

-- a finished travel ends with its finding
pub ends_travel-from_finished : (d : DomainValue) (flow : ℕ) (f : FlowOfDomain) (ttl : ℕ)
    (ended : FinishedTravel) →
    f ≡ record { domain = d; flow = flow } → IsFinishedTravelOf d flow ttl ended → 1 ≤ ttl → ttl ≤ 255 →
    EndsTravel f ttl (finding_value ended.travel.finding) ended.flight
ends_travel-from_finished d flow f ttl ended e h low high =
    subst (λ (g : FlowOfDomain). EndsTravel g ttl (finding_value ended.travel.finding) ended.flight)
    (sym e) (record {
      domain = h.domain;
      low = low;
      high = high;
      picks = h.run.picks;
      travel = h.run.travel;
      ends = h.run.ends;
    })

-- with the flow's TTL
pub ends_travel-at_flow_ttl : (d : DomainValue) (flow : ℕ) (f : FlowOfDomain) (ended : FinishedTravel)
    → IsFlowOfDomain f →
    f ≡ record { domain = d; flow = flow } → IsFinishedTravelOf d flow (ttl_of d flow) ended →
    EndsTravel f (net_in f).ttl (finding_value ended.travel.finding) ended.flight
ends_travel-at_flow_ttl d flow f ended ok e h =
    let low = ttl-at_least_1 f.domain f.flow ok.domain ok.flow in
    let high = ttl-at_most_255 f.domain f.flow ok.domain ok.flow in
    ends_travel-from_finished d flow f (net_in f).ttl ended e
    (subst (λ (g : FlowOfDomain). IsFinishedTravelOf d flow (net_in g).ttl ended) (sym e) h) low high

-- a LAN that is missed though a packet with TTL 255 has no finding
pub is_out_of_reach-from_finished : (d : DomainValue) (flow lan : ℕ) (f : FlowOfDomain)
    (greatest least : FinishedTravel) →
    IsFlowOfDomain f → f ≡ record { domain = d; flow = flow } → IsFinishedTravelOf d flow 255 greatest →
    FindsNothing greatest.travel → IsFinishedTravelOf d flow (ttl_of d flow) least →
    finding_value least.travel.finding ≡ Missed lan →
    IsOutOfReach (net_in f) greatest.flight.flight.carried (net_in f).ttl lan
is_out_of_reach-from_finished d flow lan f greatest least ok e h none k missed =
    let high = subst (λ (x : Finding). EndsTravel f 255 x greatest.flight) none
    (ends_travel-from_finished d flow f 255 greatest e h (omega arith) (omega arith)) in
    let low = subst (λ (x : Finding). EndsTravel f (net_in f).ttl x least.flight) missed
    (ends_travel-at_flow_ttl d flow f least ok e k) in
    is_out_of_reach-from_missed f lan greatest.flight least.flight ok high low
