-- What holds of each reported cause.
use Rattle.std.proofs.Common.{◌≡◌, ℕ, ◌<◌, ◌≤◌, ◌↔◌, inl, inr, false, List, [], ◌∷◌, ◌++◌, map, reverse}
use Rattle.std.proofs.Common.{length, Option, Some, None, refl, ap, sym, subst, ◌∙◌, arith}
use Rattle.std.proofs.lemmas.List.{reverse-append}
use Rattle.mc_theory.specs.Lists.{In, Distinct}
use Rattle.mc_theory.specs.Nets.{Net, Row, Interface}
use Rattle.mc_theory.specs.Nets.Row.{Exact, Open, NoRow}
use Rattle.mc_theory.specs.Flights.{Copy, Flight, start}
use Rattle.mc_theory.specs.Certificates.{IsClean, lans}
use Rattle.mc_theory.specs.Findings.{Finding, first_copy_on, handles}
use Rattle.mc_theory.specs.Findings.Finding.{Clean, Duplicate, Loop, Stray, Missed}
use Rattle.mc_theory.specs.CertificateOfCopies.{entries_of}
use Rattle.mc_theory.specs.FindingMeaning.{IsFirstDouble}
use Rattle.mc_theory.specs.Paths.{Hop, IsHop, IsPath, IsReached, IsReachedWithTtl, IsSpareInterface, need}
use Rattle.mc_theory.specs.Paths.{take_out, CameByHops, CameFromLan}
use Rattle.mc_theory.proofs.ListLemmas.{in-append_cases, in-append_right, in-map_cases}
use Rattle.mc_theory.proofs.ListLemmas.{distinct_append-disjoint}
use Rattle.mc_theory.proofs.RunInvariant.{map-append'}
use Rattle.mc_theory.proofs.ReachedLans.{is_safe-from_tree}
use Rattle.mc_theory.proofs.Travels.{in_range-travel, is_tree-from_clean_travel}
use Rattle.mc_theory.proofs.WalkBack.{in-first_copy_on}
use Rattle.mc_theory.proofs.Paths.{need_at_most-from_passes}
use Rattle.mc_theory.proofs.CameByHops.{is_rooted-from_travel, is_path-from_travel, in-first_double}
use Rattle.mc_theory.proofs.CameByHops.{lan-first_copy_on}
use Rattle.mc_theory.proofs.Hops.{is_path-from_came_from_lan}
use Rattle.mc_theory.proofs.StoppingHop.{need_above-from_stopped}
use Rattle.mc_theory.proofs.LeastTtl.{reached_with_ttl-iff_need}
use Rattle.mc_theory.proofs.SpareInterface.{is_path-without_spare, path_without-spare, path_without-as_good}
use Rattle.mc_forward.specs.Domains.{DomainValue, IsDomain, net_of}
use Rattle.mc_forward.specs.FlightsInDomain.{FlowOfDomain, IsFlowOfDomain, FlightInDomain, net_in}
use Rattle.mc_replay.specs.FindingValues.{finding_value}
use Rattle.mc_replay.specs.declared.travel.FinishedTravel.{FinishedTravel}
use Rattle.mc_maker.specs.ExaminedFlights.{HasExaminedFlights}
use Rattle.mc_maker.specs.declared.examined_flights.ExaminedFlights.{ExaminedFlights}
use Rattle.mc_maker.specs.declared.examined_flights.ExaminedFlights.TheVariants.{Certified, FoundAtTtl255}
use Rattle.mc_maker.specs.declared.examined_flights.ExaminedFlights.TheVariants.{FoundAtFlowTtl}
use Rattle.mc_explain.specs.declared.causes.Cause.{Cause}
use Rattle.mc_explain.specs.declared.causes.Cause.TheVariants.{SentOnto, Circle, TakeOut, Unplaced}
use Rattle.mc_explain.specs.declared.causes.Cause.TheVariants.{LeastTtl, OnlyEverySource, StoppedAt}
use Rattle.mc_explain.specs.Explained.{ExplainsAtFlowTtl, ExplainsDuplicate, ExplainsFinding}
use Rattle.mc_explain.specs.Explained.{ExplainsLeastTtl, ExplainsLoop, IsExplained, IsRemedy}
use Rattle.mc_explain.specs.Explained.{circle_cause, sender_causes, stray_causes}
use Rattle.mc_explain.specs.LastFlights.{EndsTravel}
use Rattle.mc_explain.specs.CauseFacts.{AreCausesOf, LeadsOut, SendsOnto, StaysReached}
use Rattle.mc_explain.specs.CauseFacts.{IsClosedCircle, IsMissedOrClean, ReachesEverySourceRow}
use Rattle.mc_explain.specs.CauseFacts.{StopsShortOfLan, final_finding}
use Rattle.mc_explain.proofs.LastFlightLemmas.{ends_travel-from_finished, ends_travel-at_flow_ttl}
use Rattle.mc_explain.proofs.LastFlightLemmas.{last_flight, is_net-from_is_flow_in, shows-last_flight}
use Rattle.mc_explain.proofs.StrayLemmas.{IsStrayAt, is_stray_at-run, leads_out-from_exact_row}
use Rattle.mc_explain.proofs.StrayLemmas.{reaches_every_source_row-from_open_row}

-- ---- what holds of a cause, by its kind

-- a remedy
pub record IsHarmlessRemedy (n : Net) (router vif lan least : ℕ) : Type 0 where
  pub sends : SendsOnto n router vif lan
  pub stays : StaysReached n (router, vif) lan least
  pub reached : (m : ℕ) → IsReached n m → IsReached (take_out (router, vif) n) m
  pub reached_with : (t m : ℕ) → least ≤ t → t ≤ 255 → IsReachedWithTtl n t m →
      IsReachedWithTtl (take_out (router, vif) n) t m

-- the least TTL
pub record IsLeastTtl (n : Net) (lan least : ℕ) : Type 0 where
  pub reached : (t : ℕ) → 1 ≤ t → t ≤ 255 → IsReachedWithTtl n t lan ↔ (least ≤ t)
  pub above : n.ttl < least
  pub high : least ≤ 255

-- what a cause says is true of the net, beside these causes
abbrev pub CauseHolds : Net → List Cause → Cause → Type 0
CauseHolds n causes (SentOnto lan router vif) = SendsOnto n router vif lan
CauseHolds n causes (Circle from onto router vif) =
    (h : Hop) × IsHop n h × (circle_cause h ≡ Circle from onto router vif)
CauseHolds n causes (TakeOut lan router vif least) = IsHarmlessRemedy n router vif lan least
CauseHolds n causes (Unplaced router vif) = LeadsOut n router vif
CauseHolds n causes (OnlyEverySource router vif) = ReachesEverySourceRow n router vif
CauseHolds n causes (LeastTtl lan least) = IsLeastTtl n lan least
CauseHolds n causes (StoppedAt router vif threshold left) =
    StopsShortOfLan n causes (StoppedAt router vif threshold left)

-- each of these lines is true, beside these causes
abbrev pub CausesHold : Net → List Cause → List Cause → Type 0
CausesHold n causes lines = (t : Cause) → In t lines → CauseHolds n causes t

-- lines of two lists
causes_hold-append : (n : Net) (causes xs ys : List Cause) → CausesHold n causes xs → CausesHold n causes ys →
    CausesHold n causes (xs ++ ys)
causes_hold-append n causes xs ys all more t h = elim (in-append_cases t xs ys h)
    [ inl k ↦ all t k | inr k ↦ more t k ]

-- one line
causes_hold-one : (n : Net) (causes : List Cause) (t : Cause) → CauseHolds n causes t
    → CausesHold n causes (t ∷ [])
causes_hold-one n causes t is u (inl e) = subst (CauseHolds n causes) e is
causes_hold-one n causes t is u (inr k) = absurd k

-- ---- two copies

-- the sender of a copy of the flight has a row that sends onto its LAN
sends_onto-from_sender : (f : FlowOfDomain) (ttl : ℕ) (x : Finding) (j : FlightInDomain) (c : Copy)
    (i : Interface) →
    EndsTravel f ttl x j → In c j.flight.carried → c.sender ≡ Some i →
    SendsOnto (net_in f) i.0 i.1 c.lan
sends_onto-from_sender f ttl x j c i e c_in q =
    let n = net_in f in
    let rooted = is_rooted-from_travel n (length f.domain.topology.lans) ttl [] false e.picks x e.travel in
    let b = rooted.base c (subst (λ (g : Flight). In c g.carried) e.ends c_in) i q in
    let s = b.2 in
    record {
      threshold = s.threshold;
      has = record { incoming = s.incoming; pairs = s.pairs; row = s.row; pair = s.pair };
      placed = s.onto;
    }

-- the lines on the sender of a copy
causes_hold-senders : (n : Net) (causes : List Cause) (lan : ℕ) (x : Option Interface) →
    ((i : Interface) → x ≡ Some i → SendsOnto n i.0 i.1 lan) → CausesHold n causes (sender_causes lan x)
causes_hold-senders n causes lan None sends = λ t h. absurd h
causes_hold-senders n causes lan (Some i) sends = causes_hold-one n causes (SentOnto lan i.0 i.1)
    (sends i refl)

-- a reported remedy is harmless
is_harmless_remedy-from_spare : (f : FlowOfDomain) (x : Finding) (j : FlightInDomain) (second : Copy)
    (i : Interface) (hs : List Hop) →
    IsFlowOfDomain f → EndsTravel f 255 x j → IsSpareInterface (net_in f) j.flight second i hs →
    IsHarmlessRemedy (net_in f) i.0 i.1 second.lan (need hs)
is_harmless_remedy-from_spare f x j second i hs ok e s' =
    let n = net_in f in
    let count = length f.domain.topology.lans in
    let net = is_net-from_is_flow_in f ok in
    let s = subst (λ (g : Flight). IsSpareInterface n g second i hs) e.ends s' in
    let path = (is_path-without_spare n count 255 [] false e.picks x second i hs net e.travel s).1 in
    record {
      sends = sends_onto-from_sender f 255 x j second i e (in-first_double j.flight.carried second
          s'.first_double)
          s'.sender;
      stays = record { path = hs; is_path = path; least_is = refl };
      reached = λ m r. (
          let k = path_without-spare n count 255 [] false e.picks x second i hs net e.travel s r.0 m r.1 in
          (k.0, k.1));
      reached_with = λ t m least le r. (
          let good = path_without-as_good n count 255 e.picks x second i hs t net e.travel s least le in
          let k = good r.0 m r.1 in
          (k.0, k.1, (k.2 r.2).0));
    }

-- the line on a remedy is true
cause_holds-remedy : (f : FlowOfDomain) (x : Finding) (j : FlightInDomain) (causes : List Cause) (lan : ℕ)
    (second : Copy)
    (remedy : Cause) → IsFlowOfDomain f → EndsTravel f 255 x j →
    IsRemedy (net_in f) j.flight lan second remedy → CauseHolds (net_in f) causes remedy
cause_holds-remedy f x j causes lan second remedy ok e out =
    let n = net_in f in
    subst (CauseHolds n causes) (sym out.cause_is)
    (subst (λ (l : ℕ). IsHarmlessRemedy n out.sender.0 out.sender.1 l (need out.path)) out.on
    (is_harmless_remedy-from_spare f x j second out.sender out.path ok e out.spare))

-- the causes of a duplicate are true
causes_hold-duplicate : (f : FlowOfDomain) (lan : ℕ) (j : FlightInDomain) (causes : List Cause)
    → IsFlowOfDomain f →
    EndsTravel f 255 (Duplicate lan) j → ExplainsDuplicate (net_in f) j.flight lan causes →
    CausesHold (net_in f) causes causes
causes_hold-duplicate f lan j causes ok e d =
    let n = net_in f in
    let x = Duplicate lan in
    let cs = j.flight.carried in
    let second_in = in-first_double cs d.second d.take_out.spare.first_double in
    let all : CausesHold n causes
    (sender_causes lan d.first.sender ++ (sender_causes lan d.second.sender ++ d.remedy ∷ [])) =
    causes_hold-append n causes (sender_causes lan d.first.sender)
    (sender_causes lan d.second.sender ++ d.remedy ∷ [])
    (causes_hold-senders n causes lan d.first.sender (λ i q.
    subst (SendsOnto n i.0 i.1) (lan-first_copy_on cs lan d.first d.first_on)
    (sends_onto-from_sender f 255 x j d.first i e (in-first_copy_on cs lan d.first d.first_on) q)))
    (causes_hold-append n causes (sender_causes lan d.second.sender) (d.remedy ∷ [])
    (causes_hold-senders n causes lan d.second.sender (λ i q. subst (SendsOnto n i.0 i.1) d.take_out.on
    (sends_onto-from_sender f 255 x j d.second i e second_in q)))
    (causes_hold-one n causes d.remedy (cause_holds-remedy f x j causes lan d.second d.remedy ok e
    d.take_out))) in
    subst (CausesHold n causes) (sym d.causes_are) all

-- ---- a circle

-- a hop of a path is a hop of the net
is_hop-from_path : (n : Net) (a b : ℕ) (hs : List Hop) (h : Hop) → IsPath n a hs b → In h hs → IsHop n h
is_hop-from_path n a b [] h path k = absurd k
is_hop-from_path n a b (g ∷ hs) h path (inl e) = subst (IsHop n) e path.1
is_hop-from_path n a b (g ∷ hs) h path (inr k) = is_hop-from_path n a g.from hs h path.2 k

-- a line of a reversed list is in the list
in-from_reverse : (t : Cause) (ts : List Cause) → In t (reverse ts) → In t ts
in-from_reverse t [] h = h
in-from_reverse t (u ∷ ts) h =
    elim (in-append_cases t (reverse ts) (u ∷ [])
    (subst (In t) (reverse-append (u ∷ []) ts) h)) [
      | inl k ↦ inr (in-from_reverse t ts k)
      | inr (inl e) ↦ inl e
      | inr (inr k) ↦ absurd k
    ]

-- the hops of the circle are a path from its LAN to itself
is_path-of_circle : (n : Net) (g : Flight) (lan : ℕ) (causes : List Cause) →
    (l : ExplainsLoop n g lan causes) → IsPath n lan l.circle lan
is_path-of_circle n g lan causes l = subst (IsPath n lan l.circle) l.take_out.on
    (is_path-from_came_from_lan n g.carried lan l.second l.circle l.came_by_hops)

-- the causes of a loop are true
causes_hold-loop : (f : FlowOfDomain) (lan : ℕ) (j : FlightInDomain) (causes : List Cause)
    → IsFlowOfDomain f →
    EndsTravel f 255 (Loop lan) j → ExplainsLoop (net_in f) j.flight lan causes →
    CausesHold (net_in f) causes causes
causes_hold-loop f lan j causes ok e l =
    let n = net_in f in
    let closed = is_path-of_circle n j.flight lan causes l in
    let all = causes_hold-append n causes (reverse (map circle_cause l.circle)) (l.remedy ∷ [])
    (λ t h. (let k = in-map_cases circle_cause t l.circle
    (in-from_reverse t (map circle_cause l.circle) h) in
    subst (CauseHolds n causes) k.2 (k.0, is_hop-from_path n lan lan l.circle k.0 closed k.1, refl)))
    (causes_hold-one n causes l.remedy (cause_holds-remedy f (Loop lan) j causes lan l.second l.remedy ok e
    l.take_out))
    in subst (CausesHold n causes) (sym l.causes_are) all

-- ---- a stray

-- the line on the row by which copies leave
causes_hold-stray_row : (n : Net) (causes : List Cause) (row : Row) (router vif : ℕ) → n.row router ≡ row →
    IsStrayAt n (router, vif) → CausesHold n causes (stray_causes row router vif)
causes_hold-stray_row n causes (Exact incoming pairs) router vif e left =
    causes_hold-one n causes (Unplaced router vif) (leads_out-from_exact_row n (router, vif) incoming pairs
    e left)
causes_hold-stray_row n causes Open router vif e left =
    causes_hold-one n causes (OnlyEverySource router vif) (reaches_every_source_row-from_open_row n
    (router, vif) e left)
causes_hold-stray_row n causes NoRow router vif e left = λ t h. absurd h

-- the causes of a stray are true
causes_hold-stray : (f : FlowOfDomain) (router vif : ℕ) (j : FlightInDomain) (causes : List Cause)
    → IsFlowOfDomain f →
    EndsTravel f 255 (Stray router vif) j →
    causes ≡ stray_causes ((net_in f).row router) router vif → CausesHold (net_in f) causes causes
causes_hold-stray f router vif j causes ok e is =
    let n = net_in f in
    let strays = (shows-last_flight f 255 (Stray router vif) j ok e).1 in
    let left = is_stray_at-run n 255 (handles e.picks) (router, vif)
    (subst (λ (is : List Interface). In (router, vif) is) (sym strays.1) (inl refl)) in
    subst (CausesHold n causes) (sym is) (causes_hold-stray_row n causes (n.row router) router vif refl left)

-- ---- a least TTL

-- the causes of a LAN that is missed at the flow's TTL alone are true
causes_hold-least_ttl : (f : FlowOfDomain) (lan : ℕ) (j : FlightInDomain) (causes : List Cause)
    → IsFlowOfDomain f →
    EndsTravel f 255 Clean j → ExplainsLeastTtl (net_in f) j.flight lan causes →
    CausesHold (net_in f) causes causes
causes_hold-least_ttl f lan j causes ok e l =
    let n = net_in f in
    let count = length f.domain.topology.lans in
    let net = is_net-from_is_flow_in f ok in
    let cs = (last_flight f 255 Clean j e).carried in
    let on = subst (λ (g : Flight). first_copy_on g.carried lan ≡ Some l.copy) e.ends l.copy_is in
    let copy_in = in-first_copy_on cs lan l.copy on in
    let came_by_hops = subst (λ (g : Flight). CameByHops n g.carried l.copy l.path) e.ends l.came_by_hops in
    let path = is_path-from_travel n count 255 [] false e.picks Clean l.copy l.path net e.travel copy_in
    came_by_hops in
    let to = lan-first_copy_on cs lan l.copy on in
    let leads = subst (IsPath n n.source l.path) to path.0 in
    let least : IsLeastTtl n lan (need l.path) = record {
      reached = λ t low high. subst (λ (m : ℕ). IsReachedWithTtl n t m ↔ (need l.path ≤ t)) to
          (reached_with_ttl-iff_need n count [] false e.picks l.copy l.path t net e.travel copy_in
          came_by_hops low high);
      above = need_above-from_stopped n.ttl l.path l.hop l.left l.stopped;
      high = need_at_most-from_passes 255 l.path (omega arith) path.1;
    } in
    let hop_in : In l.hop l.path = subst (In l.hop) (sym l.stopped.split)
    (in-append_right l.hop l.stopped.after (l.hop ∷ l.stopped.before) (inl refl)) in
    let first_is_cause : In (LeastTtl lan (need l.path)) causes =
    subst (In (LeastTtl lan (need l.path))) (sym l.causes_are) (inl refl) in
    let stop = StoppedAt l.hop.router l.hop.vif l.hop.threshold l.left in
    let stops : StopsShortOfLan n causes stop = record {
      lan = lan;
      least = need l.path;
      hop = l.hop;
      left = l.left;
      named = first_is_cause;
      stops = record {
        path = l.path;
        leads = leads;
        is_hop = is_hop-from_path n n.source lan l.path l.hop leads hop_in;
        stopped = l.stopped;
      };
      stop_is = refl;
    } in
    subst (CausesHold n causes) (sym l.causes_are) (λ t h. elim h [
      | inl q ↦ subst (CauseHolds n causes) q least
      | inr k ↦ causes_hold-one n causes stop stops t k
    ])

-- ---- if a packet with TTL 255 has no finding

-- copies on distinct LANs have no double one
not_double-if_distinct : (cs : List Copy) (c : Copy) → Distinct (lans cs) → IsFirstDouble cs c → ⊥
not_double-if_distinct cs c once d =
    let lan : Copy → ℕ = λ x. x.lan in
    let apart = subst Distinct (ap lans d.split ∙ map-append' lan d.earlier (c ∷ d.later)) once in
    distinct_append-disjoint (lans d.earlier) (lans (c ∷ d.later)) apart c.lan d.again (inl refl)

-- no other packet of the flow brings two copies to a LAN, or leaves the domain
is_clean-last_flight : (f : FlowOfDomain) (ttl : ℕ) (x : Finding) (j k : FlightInDomain) → IsFlowOfDomain f →
    EndsTravel f 255 Clean j → (e : EndsTravel f ttl x k) → IsClean (last_flight f ttl x k e)
is_clean-last_flight f ttl x j k ok high e =
    let n = net_in f in
    let count = length f.domain.topology.lans in
    let net = is_net-from_is_flow_in f ok in
    let tree = is_tree-from_clean_travel n count [] false high.picks net high.travel in
    (is_safe-from_tree n (entries_of n (last_flight f 255 Clean j high).carried) ttl (handles e.picks) net
    tree e.low
    e.high (in_range-travel n count [] false e.picks (start n ttl) x e.travel)).clean

-- so a packet with the flow's TTL shows no duplicate,
not_duplicate-if_clean_at_255 : (f : FlowOfDomain) (lan : ℕ) (j k : FlightInDomain) → IsFlowOfDomain f
    → EndsTravel f 255 Clean j →
    EndsTravel f (net_in f).ttl (Duplicate lan) k → ⊥
not_duplicate-if_clean_at_255 f lan j k ok high e =
    let d = (shows-last_flight f (net_in f).ttl (Duplicate lan) k ok e).0 in
    not_double-if_distinct (last_flight f (net_in f).ttl (Duplicate lan) k e).carried d.copy
    (is_clean-last_flight f (net_in f).ttl (Duplicate lan) j k ok high e).once d.first

-- no loop,
not_loop-if_clean_at_255 : (f : FlowOfDomain) (lan : ℕ) (j k : FlightInDomain) → IsFlowOfDomain f
    → EndsTravel f 255 Clean j →
    EndsTravel f (net_in f).ttl (Loop lan) k → ⊥
not_loop-if_clean_at_255 f lan j k ok high e =
    let d = (shows-last_flight f (net_in f).ttl (Loop lan) k ok e).0 in
    not_double-if_distinct (last_flight f (net_in f).ttl (Loop lan) k e).carried d.copy
    (is_clean-last_flight f (net_in f).ttl (Loop lan) j k ok high e).once d.first

-- and no stray
not_stray-if_clean_at_255 : (f : FlowOfDomain) (router vif : ℕ) (j k : FlightInDomain) → IsFlowOfDomain f →
    EndsTravel f 255 Clean j → EndsTravel f (net_in f).ttl (Stray router vif) k → ⊥
not_stray-if_clean_at_255 f router vif j k ok high e =
    let others = (shows-last_flight f (net_in f).ttl (Stray router vif) k ok e).1 in
    let none = (is_clean-last_flight f (net_in f).ttl (Stray router vif) j k ok high e).none_stray in
    let both : [] ≡ (router, vif) ∷ others.0 = sym none ∙ others.1 in
    cc

-- so the causes of what it shows are true
causes_hold-at_flow_ttl : (f : FlowOfDomain) (x : Finding) (j k : FlightInDomain) (causes : List Cause)
    → IsFlowOfDomain f →
    EndsTravel f 255 Clean j → EndsTravel f (net_in f).ttl x k →
    ExplainsAtFlowTtl (net_in f) j.flight k.flight x causes → CausesHold (net_in f) causes causes
causes_hold-at_flow_ttl f Clean j k causes ok high e is = λ t h. absurd (subst (In t) is h)
causes_hold-at_flow_ttl f (Missed lan) j k causes ok high e is = causes_hold-least_ttl f lan j causes ok
    high is
causes_hold-at_flow_ttl f (Duplicate lan) j k causes ok high e is =
    absurd (not_duplicate-if_clean_at_255 f lan j k ok high e)
causes_hold-at_flow_ttl f (Loop lan) j k causes ok high e is = absurd (not_loop-if_clean_at_255 f lan j k ok
    high e)
causes_hold-at_flow_ttl f (Stray router vif) j k causes ok high e is =
    absurd (not_stray-if_clean_at_255 f router vif j k ok high e)

-- ---- all causes

-- the causes of a finding at TTL 255
causes_hold-finding : (f : FlowOfDomain) (x : Finding) (j : FlightInDomain) (causes : List Cause)
    → IsFlowOfDomain f →
    EndsTravel f 255 x j → ExplainsFinding (net_in f) j.flight x causes →
    CausesHold (net_in f) causes causes
causes_hold-finding f Clean j causes ok e is = λ t h. absurd (subst (In t) is h)
causes_hold-finding f (Missed lan) j causes ok e is = λ t h. absurd (subst (In t) is h)
causes_hold-finding f (Duplicate lan) j causes ok e is = causes_hold-duplicate f lan j causes ok e is
causes_hold-finding f (Loop lan) j causes ok e is = causes_hold-loop f lan j causes ok e is
causes_hold-finding f (Stray router vif) j causes ok e is = causes_hold-stray f router vif j causes ok e is

-- the causes of what was found, at either TTL
causes_hold-examined : (d : DomainValue) (flow : ℕ) (examined_flights : ExaminedFlights)
    (causes : List Cause) →
    IsFlowOfDomain (record { domain = d; flow = flow }) → HasExaminedFlights d flow examined_flights →
    IsExplained d flow examined_flights causes → CausesHold (net_of d flow) causes causes
causes_hold-examined d flow (Certified entries) causes ok examined_flights is =
    λ t h. absurd (subst (In t) is h)
causes_hold-examined d flow (FoundAtTtl255 ended) causes ok examined_flights is =
    let f : FlowOfDomain = record { domain = d; flow = flow } in
    causes_hold-finding f (finding_value ended.travel.finding) ended.flight causes ok
    (ends_travel-from_finished d flow f 255 ended refl examined_flights (omega arith) (omega arith)) is
causes_hold-examined d flow (FoundAtFlowTtl greatest least) causes ok examined_flights is =
    let f : FlowOfDomain = record { domain = d; flow = flow } in
    causes_hold-at_flow_ttl f (finding_value least.travel.finding) greatest.flight least.flight causes ok
    (subst (λ (x : Finding). EndsTravel f 255 x greatest.flight) examined_flights.1
    (ends_travel-from_finished d flow f 255 greatest refl examined_flights.0 (omega arith) (omega arith)))
    (ends_travel-at_flow_ttl d flow f least ok refl examined_flights.2) is

-- each cause of a flow is true
pub causes_hold-all : (d : DomainValue) (flow : ℕ) (examined_flights : ExaminedFlights)
    (causes : List Cause) →
    AreCausesOf d flow examined_flights causes → CausesHold (net_of d flow) causes causes
causes_hold-all d flow examined_flights causes is = causes_hold-examined d flow examined_flights causes
    (record { domain = is.examined.domain; flow = is.examined.listed }) is.examined.examined is.explained

-- ---- the whole circle

-- the lines of a loop are those of a circle that closes
is_closed_circle-from_loop : (n : Net) (g : Flight) (lan : ℕ) (causes : List Cause) (circle : List Hop) →
    (l : ExplainsLoop n g lan causes) → l.circle ≡ circle → IsClosedCircle n lan causes
is_closed_circle-from_loop n g lan causes [] l e =
    absurd (subst (CameFromLan n g.carried lan l.second) e l.came_by_hops)
is_closed_circle-from_loop n g lan causes (h ∷ hs) l e = record {
  first = h;
  others = hs;
  remedy = l.remedy;
  lines = l.causes_are ∙ ap (λ (ks : List Hop). reverse (map circle_cause ks) ++ l.remedy ∷ []) e;
  closed = subst (λ (ks : List Hop). IsPath n lan ks lan) e (is_path-of_circle n g lan causes l);
}

-- so are those that are printed
pub is_closed_circle-from_explained : (d : DomainValue) (flow : ℕ) (examined_flights : ExaminedFlights)
    (causes : List Cause) (lan : ℕ) →
    IsExplained d flow examined_flights causes → final_finding examined_flights ≡ Loop lan
    → IsClosedCircle (net_of d flow) lan causes
is_closed_circle-from_explained d flow (Certified entries) causes lan is e = absurd cc
is_closed_circle-from_explained d flow (FoundAtTtl255 ended) causes lan is e =
    let n = net_of d flow in
    let l = subst (λ (x : Finding). ExplainsFinding n ended.flight.flight x causes) e is in
    is_closed_circle-from_loop n ended.flight.flight lan causes l.circle l refl
is_closed_circle-from_explained d flow (FoundAtFlowTtl greatest least) causes lan is e =
    let n = net_of d flow in
    let l = subst (λ (x : Finding).
    ExplainsAtFlowTtl n greatest.flight.flight least.flight.flight x causes) e is in
    is_closed_circle-from_loop n least.flight.flight lan causes l.circle l refl

-- ---- what the flow's TTL can show

-- if TTL 255 shows nothing, the flow's TTL shows nothing or a missed LAN
is_missed_or_clean-if_clean_at_255 : (f : FlowOfDomain) (x : Finding) (j k : FlightInDomain)
    → IsFlowOfDomain f →
    EndsTravel f 255 Clean j → EndsTravel f (net_in f).ttl x k → IsMissedOrClean x
is_missed_or_clean-if_clean_at_255 f Clean j k ok high e = inl refl
is_missed_or_clean-if_clean_at_255 f (Missed lan) j k ok high e = inr (lan, refl)
is_missed_or_clean-if_clean_at_255 f (Duplicate lan) j k ok high e =
    absurd (not_duplicate-if_clean_at_255 f lan j k ok high e)
is_missed_or_clean-if_clean_at_255 f (Loop lan) j k ok high e =
    absurd (not_loop-if_clean_at_255 f lan j k ok high e)
is_missed_or_clean-if_clean_at_255 f (Stray router vif) j k ok high e =
    absurd (not_stray-if_clean_at_255 f router vif j k ok high e)

-- so it is for the finding that is known of a flow
pub is_missed_or_clean-at_flow_ttl : (d : DomainValue) (flow : ℕ) (greatest least : FinishedTravel)
    → IsDomain d →
    flow < length d.topology.flows → HasExaminedFlights d flow (FoundAtFlowTtl greatest least) →
    IsMissedOrClean (finding_value least.travel.finding)
is_missed_or_clean-at_flow_ttl d flow greatest least ok lt examined_flights =
    let f : FlowOfDomain = record { domain = d; flow = flow } in
    let rules : IsFlowOfDomain f = record { domain = ok; flow = lt } in
    is_missed_or_clean-if_clean_at_255 f (finding_value least.travel.finding) greatest.flight least.flight
    rules
    (subst (λ (x : Finding). EndsTravel f 255 x greatest.flight) examined_flights.1
    (ends_travel-from_finished d flow f 255 greatest refl examined_flights.0 (omega arith) (omega arith)))
    (ends_travel-at_flow_ttl d flow f least rules refl examined_flights.2)
