-- What is worked out is the TTL from which on packets show the finding.
use Rattle.std.proofs.Common.{◌≡◌, ℕ, ◌≤◌, max, inl, inr, ◌⊎◌, false, List, [], length}
use Rattle.std.proofs.Common.{Option, Some, Result, Ok, Err, refl, ap, ap₂, sym, subst, ◌∙◌, arith}
use Rattle.std.specs.Prelude.{IfOk, IfSome}
use Rattle.mc_theory.specs.Lists.{In}
use Rattle.mc_theory.specs.Nets.{Net, IsNet, Row, WantsBelow}
use Rattle.mc_theory.specs.Flights.{Copy, Flight, run, start}
use Rattle.mc_theory.specs.Findings.{Finding, IsTravel, handles}
use Rattle.mc_theory.specs.Findings.Finding.{Clean, Duplicate, Loop, Stray, Missed}
use Rattle.mc_theory.specs.Paths.{Hop, CameByHops, need}
use Rattle.mc_theory.specs.Hops.{hops_of_copy}
use Rattle.mc_theory.specs.ShownFrom.{FirstCameByHops, IsShownFrom, RestsOnOpenRow, RestsOnSentCopy}
use Rattle.mc_theory.specs.ShownFrom.{RestsOnTwoCopies}
use Rattle.mc_theory.proofs.CertificateOfRun.{threshold_of-of_member}
use Rattle.mc_theory.proofs.WalkBack.{in-first_copy_on}
use Rattle.mc_theory.proofs.CameByHops.{in-first_double}
use Rattle.mc_theory.proofs.Hops.{came_by_hops-fewer_than_copies, hops_back-came_by_hops}
use Rattle.mc_theory.proofs.ShownFrom.{has_need-travel}
use Rattle.mc_forward.specs.Domains.{DomainValue, IsDomain, net_of}
use Rattle.mc_forward.specs.FlightsInDomain.{FlowOfDomain, IsFlowOfDomain, net_in}
use Rattle.mc_forward.proofs.DomainLemmas.{is_net-net_of, wants-below_lan_count}
use Rattle.mc_replay.specs.FindingValues.{finding_value}
use Rattle.mc_replay.specs.declared.travel.FinishedTravel.{FinishedTravel}
use Rattle.mc_maker.specs.ExaminedFlights.{IsFinishedTravelOf}
use Rattle.mc_explain.specs.ShownNeed.{IsShownFromIfAny, hops_from_lan_if_any, hops_of_copy_if_any}
use Rattle.mc_explain.specs.ShownNeed.{hops_to_lan, need_behind, need_of_finding, need_of_stray}
use Rattle.mc_explain.specs.ShownNeed.{need_of_two_copies}
use Rattle.mc_explain.proofs.LastFlightLemmas.{first_double-from_is_first_double}

-- ---- hops

-- the hops by which a copy came are at most as many as the carried ones
abbrev pub HaveFewHops : Net → List Copy → Type 0
HaveFewHops n cs = (c : Copy) (hs : List Hop) → In c cs → CameByHops n cs c hs → length hs ≤ length cs

-- so these hops are those that are followed back from the copy
hops_of_copy-came_by_hops : (n : Net) (cs : List Copy) (c : Copy) (hs : List Hop) → IsNet n →
    HaveFewHops n cs → In c cs → CameByHops n cs c hs → hs ≡ hops_of_copy n cs c
hops_of_copy-came_by_hops n cs c hs net few c_in came =
    sym (hops_back-came_by_hops n cs (length cs) c hs net came (few c hs c_in came))

-- and from a LAN's first copy
hops_to_lan-came_by_hops : (n : Net) (cs : List Copy) (lan : ℕ) (hs : List Hop) → IsNet n →
    HaveFewHops n cs → FirstCameByHops n cs lan hs → hs ≡ hops_to_lan n cs lan
hops_to_lan-came_by_hops n cs lan hs net few came =
    hops_of_copy-came_by_hops n cs came.first hs net few (in-first_copy_on cs lan came.first came.first_on)
    came.came ∙ ap (hops_of_copy_if_any n cs) (sym came.first_on)

-- and from that of a LAN on which a vif is placed
hops_from_lan-came_by_hops : (n : Net) (cs : List Copy) (o : Option ℕ) (lan : ℕ) (hs : List Hop) →
    IsNet n → HaveFewHops n cs → o ≡ Some lan → FirstCameByHops n cs lan hs →
    hs ≡ hops_from_lan_if_any n cs o
hops_from_lan-came_by_hops n cs o lan hs net few same came =
    hops_to_lan-came_by_hops n cs lan hs net few came ∙ ap (hops_from_lan_if_any n cs) (sym same)

-- ---- needs

-- the need of two copies
pub need_of_two_copies-is_need : (n : Net) (cs : List Copy) (lan k : ℕ) → IsNet n → HaveFewHops n cs →
    RestsOnTwoCopies n cs lan k → k ≡ need_of_two_copies n cs lan
need_of_two_copies-is_need n cs lan k net few r =
    let first = hops_to_lan-came_by_hops n cs lan r.first_path net few r.first in
    let second = hops_of_copy-came_by_hops n cs r.second r.second_path net few
    (in-first_double cs r.second r.first_double) r.came
    ∙ ap (hops_of_copy_if_any n cs) (sym (first_double-from_is_first_double cs r.second r.first_double)) in
    r.need_is ∙ ap₂ (λ (hs ks : List Hop). max (need hs) (need ks)) first second

-- the need of a stray
need_of_stray-is_need : (n : Net) (cs : List Copy) (r v k : ℕ) → IsNet n → HaveFewHops n cs →
    RestsOnSentCopy n cs r v k ⊎ RestsOnOpenRow n cs r v k → k ≡ need_of_stray n cs (n.row r) r v
need_of_stray-is_need n cs r v k net few (inl q) =
    let path = hops_from_lan-came_by_hops n cs (n.placed r q.incoming) q.lan q.path net few q.takes q.first in
    let threshold = sym (threshold_of-of_member v q.threshold q.pairs (net.vifs r q.incoming q.pairs q.row)
    q.pair) in
    q.need_is ∙ ap₂ (λ (hs : List Hop) (h : ℕ). need_behind hs h) path threshold
    ∙ ap (λ (row : Row). need_of_stray n cs row r v) (sym q.row)
need_of_stray-is_need n cs r v k net few (inr q) =
    q.need_is ∙ ap need (hops_from_lan-came_by_hops n cs (n.placed r v) q.lan q.path net few q.placed q.first)
    ∙ ap (λ (row : Row). need_of_stray n cs row r v) (sym q.row)

-- ---- findings

-- what is worked out is right, and at most s
pub record IsNeedUpTo (n : Net) (cs : List Copy) (x : Finding) (s : ℕ) : Type 0 where
  pub shown : IsShownFromIfAny n cs x (need_of_finding n cs x)
  pub bounded : IfSome (need_of_finding n cs x) (λ k. k ≤ s)

-- where what is worked out is the TTL from which on packets show it
is_need_up_to-same : (n : Net) (cs : List Copy) (x : Finding) (s k m : ℕ) →
    need_of_finding n cs x ≡ Some m → k ≡ m → IsShownFrom n cs x k → k ≤ s → IsNeedUpTo n cs x s
is_need_up_to-same n cs x s k m is same shown le =
    let found : need_of_finding n cs x ≡ Some k = is ∙ ap Some (sym same) in
    record {
      shown = subst (IsShownFromIfAny n cs x) (sym found) shown;
      bounded = subst (λ (o : Option ℕ). IfSome o (λ j. j ≤ s)) (sym found) le;
    }

-- after a travel with TTL s
is_need_up_to-travel : (n : Net) (count s : ℕ) (is : List ℕ) (y x : Finding) → x ≡ y → IsNet n →
    WantsBelow n count → 1 ≤ s → IsTravel n count [] false is (start n s) y →
    HaveFewHops n (run n (handles is) (start n s)).carried →
    IsNeedUpTo n (run n (handles is) (start n s)).carried x s
is_need_up_to-travel n count s is y Clean same net wants low travel few =
    record { shown = λ fault. fault; bounded = tt }
is_need_up_to-travel n count s is y (Missed lan) same net wants low travel few =
    record { shown = λ fault. fault; bounded = tt }
is_need_up_to-travel n count s is y (Duplicate lan) same net wants low travel few =
    let cs = (run n (handles is) (start n s)).carried in
    let has = has_need-travel n count s [] false is (Duplicate lan) net wants low
    (subst (IsTravel n count [] false is (start n s)) (sym same) travel) tt in
    is_need_up_to-same n cs (Duplicate lan) s has.0 (need_of_two_copies n cs lan) refl
    (need_of_two_copies-is_need n cs lan has.0 net few has.1) has.1 has.2
is_need_up_to-travel n count s is y (Loop lan) same net wants low travel few =
    let cs = (run n (handles is) (start n s)).carried in
    let has = has_need-travel n count s [] false is (Loop lan) net wants low
    (subst (IsTravel n count [] false is (start n s)) (sym same) travel) tt in
    is_need_up_to-same n cs (Loop lan) s has.0 (need_of_two_copies n cs lan) refl
    (need_of_two_copies-is_need n cs lan has.0 net few has.1) has.1 has.2
is_need_up_to-travel n count s is y (Stray r v) same net wants low travel few =
    let cs = (run n (handles is) (start n s)).carried in
    let has = has_need-travel n count s [] false is (Stray r v) net wants low
    (subst (IsTravel n count [] false is (start n s)) (sym same) travel) tt in
    is_need_up_to-same n cs (Stray r v) s has.0 (need_of_stray n cs (n.row r) r v) refl
    (need_of_stray-is_need n cs r v has.0 net few has.1) has.1 has.2

-- of a finished travel in the domain
pub is_need_up_to-finished : (d : DomainValue) (flow : ℕ) (ended : FinishedTravel) → IsDomain d →
    IsFinishedTravelOf d flow 255 ended →
    IsNeedUpTo (net_of d flow) ended.flight.flight.carried (finding_value ended.travel.finding) 255
is_need_up_to-finished d flow ended ok has =
    let n = net_of d flow in
    let count = length d.topology.lans in
    let x = finding_value ended.travel.finding in
    let is = has.run.picks in
    let few : HaveFewHops n (run n (handles is) (start n 255)).carried = λ c hs c_in came.
    (let lt = came_by_hops-fewer_than_copies n count 255 [] false is x c hs has.run.travel c_in came in
    omega (arith, lt)) in
    subst (λ (f : Flight). IsNeedUpTo n f.carried x 255) (sym has.run.ends)
    (is_need_up_to-travel n count 255 is x x refl (is_net-net_of d flow ok)
    (λ l w. wants-below_lan_count d flow l ok w) (omega arith) has.run.travel few)

-- and of what a view of its flow finds
pub is_need_up_to-view : (d : DomainValue) (flow : ℕ) (f : FlowOfDomain) (ended : FinishedTravel) →
    f ≡ record { domain = d; flow = flow } → IsFlowOfDomain f → IsFinishedTravelOf d flow 255 ended →
    IsNeedUpTo (net_in f) ended.flight.flight.carried (finding_value ended.travel.finding) 255
is_need_up_to-view d flow f ended same ok has =
    let domain = subst (λ (g : FlowOfDomain). IsDomain g.domain) same ok.domain in
    subst (λ (g : FlowOfDomain). IsNeedUpTo (net_in g) ended.flight.flight.carried
    (finding_value ended.travel.finding) 255) (sym same) (is_need_up_to-finished d flow ended domain has)

-- so what a view gives is right for the flow
pub is_shown_from-view : {X : Type 0} (d : DomainValue) (flow : ℕ) (f : FlowOfDomain)
    (ended : FinishedTravel) (r : Result (Option ℕ) X) → f ≡ record { domain = d; flow = flow } →
    IsFlowOfDomain f → IsFinishedTravelOf d flow 255 ended →
    IfOk r (λ shown. shown ≡ need_of_finding (net_in f) ended.flight.flight.carried
    (finding_value ended.travel.finding)) →
    IfOk r (IsShownFromIfAny (net_of d flow) ended.flight.flight.carried
    (finding_value ended.travel.finding))
is_shown_from-view d flow f ended (Err e) same ok has found = tt
is_shown_from-view d flow f ended (Ok shown) same ok has found =
    let cs = ended.flight.flight.carried in
    let x = finding_value ended.travel.finding in
    let is = (is_need_up_to-view d flow f ended same ok has).shown in
    subst (λ (g : FlowOfDomain). IsShownFromIfAny (net_in g) cs x shown) same
    (subst (IsShownFromIfAny (net_in f) cs x) (sym found) is)
