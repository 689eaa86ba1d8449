-- What a run past strays shows: in the domain from which nothing leads out it is a travel.
use Rattle.std.proofs.Common.{◌≡◌, ℕ, ◌<◌, ◌≤◌, Bool, true, false, cond, not, nat_lt, List, []}
use Rattle.std.proofs.Common.{◌∷◌, length, Option, Some, None, is_some, refl, ap, sym, ◌∙◌, subst, arith}
use Rattle.std.proofs.Common.{ltb-false, ltb-true}
use Rattle.std.specs.Prelude.{◌&&◌, option_map, ⊤}
use Rattle.mc_theory.specs.Lists.{In}
use Rattle.mc_theory.specs.Nets.{Net, IsNet, WantsBelow, placed_interfaces}
use Rattle.mc_theory.specs.Flights.{Copy, Waiting, Flight, run, start, step}
use Rattle.mc_theory.specs.ExcludedRouters.{IsSecondCopyOrStray}
use Rattle.mc_theory.specs.Findings.{Finding, IsTravel, double_finding, finding, first_double, handles}
use Rattle.mc_theory.specs.Findings.{walk_visits}
use Rattle.mc_theory.specs.Findings.Finding.{Clean, Duplicate, Loop, Stray, Missed}
use Rattle.mc_theory.specs.FindingMeaning.{IsFirstDouble, FirstDoubleWalk, Shows}
use Rattle.mc_theory.specs.Hops.{hops_of_copy_until}
use Rattle.mc_theory.specs.Paths.{Hop, CameByHops, CameFromLan}
use Rattle.mc_theory.specs.ShownFrom.{EachCompleteRunHasFault, FirstCameByHops, HasFault, IsShownFrom}
use Rattle.mc_theory.specs.ShownFrom.{RestsOnTwoCopies}
use Rattle.mc_theory.proofs.CameByHops.{came_by_hops, in-first_double}
use Rattle.mc_theory.proofs.CopyAndStepBounds.{HandledCountIs}
use Rattle.mc_theory.proofs.CopyAndStepBounds.{hearer_count-at_most_placed}
use Rattle.mc_theory.proofs.FindingMeaning.{shows-travel_finding}
use Rattle.mc_theory.proofs.Hops.{came_by_hops-fewer_than_copies, came_by_hops-unique}
use Rattle.mc_theory.proofs.Hops.{came_from_lan-from_loop, came_from_lan-fewer_than_copies}
use Rattle.mc_theory.proofs.Hops.{hops_until-came_from_lan}
use Rattle.mc_theory.proofs.ShownFrom.{HasNeedUpTo, each_complete_run_has_fault, has_need-travel, need-unique}
use Rattle.mc_theory.proofs.Travels.{finding-at_travel_end, first_double-none}
use Rattle.mc_replay.specs.PastStrays.{EndsPastStrays, IsRunPastStrays, finding_of_double, goes_on}
use Rattle.mc_replay.specs.PastStrays.{second_copy_finding}
use Rattle.mc_replay.proofs.ClosedNetLemmas.{closed, without_strays, is_net-closed}
use Rattle.mc_replay.proofs.ClosedNetLemmas.{is_complete_run-closed, came_by_hops-of_closed}
use Rattle.mc_replay.proofs.ClosedNetLemmas.{came_from_lan-of_closed, is_walk_back-of_closed}
use Rattle.mc_replay.proofs.ClosedNetLemmas.{walk_visits-closed, without_strays-run}
use Rattle.mc_replay.proofs.ClosedNetLemmas.{without_strays-start, without_strays-step}

-- ---- it is a travel of the closed domain

-- where the run goes on, there is no finding but for strays
finding-where_it_goes_on : (n : Net) (count : ℕ) (f : Flight) → goes_on f ≡ true
    → finding n count (without_strays f) ≡ None
finding-where_it_goes_on n count f e = by (first_double [] f.carried) f.waiting e
  where
    by : (o : Option Copy) (ws : List Waiting) → (not (is_some o) && nat_lt 0 (length ws)) ≡ true
        → double_finding n count (record { carried = f.carried; waiting = ws; strays = [] }) o ≡ None
    by None [] e = absurd cc
    by None (w ∷ ws) e = refl
    by (Some c) ws e = absurd cc

-- where it ends, there is one
finding-where_it_ends : (n : Net) (count : ℕ) (f : Flight) → goes_on f ≡ false
    → (x : Finding) × (finding n count (without_strays f) ≡ Some x)
finding-where_it_ends n count f e = by (first_double [] f.carried) f.waiting e
  where
    by : (o : Option Copy) (ws : List Waiting) → (not (is_some o) && nat_lt 0 (length ws)) ≡ false
        → (x : Finding)
        × (double_finding n count (record { carried = f.carried; waiting = ws; strays = [] }) o ≡ Some x)
    by None [] e = (_, refl)
    by None (w ∷ ws) e = absurd (let z = ltb-false 0 (length (w ∷ ws)) e in omega (arith, z))
    by (Some c) ws e = (_, refl)

-- so without strays its picks are those of a travel
is_travel-past_strays : (n : Net) (count : ℕ) (is : List ℕ) (f : Flight) → IsRunPastStrays n is f
    → (x : Finding) × IsTravel (closed n) count [] false is (without_strays f) x
is_travel-past_strays n count [] f e = finding-where_it_ends (closed n) count f e
is_travel-past_strays n count (i ∷ is) f h =
    let rest = is_travel-past_strays n count is (step n i f) h.2 in (
      rest.0,
      (
        finding-where_it_goes_on (closed n) count f h.0,
        h.1,
        subst (λ g. IsTravel (closed n) count [] false is g rest.0) (without_strays-step n i f) rest.1,
      ),
    )

-- The flight g without its strays ends a travel of the closed domain that finds x.
pub record IsClosedTravel (n : Net) (count t : ℕ) (g : Flight) (x : Finding) : Type 0 where
  pub picks : List ℕ
  pub travel : IsTravel (closed n) count [] false picks (start (closed n) t) x
  pub ends : without_strays g ≡ run (closed n) (handles picks) (start (closed n) t)

-- which is one of the closed domain, whose flights are those without strays
is_closed_travel-past_strays : (n : Net) (count t : ℕ) (g : Flight) → EndsPastStrays n (start n t) g
    → (x : Finding) × IsClosedTravel n count t g x
is_closed_travel-past_strays n count t g past =
    let found = is_travel-past_strays n count past.picks (start n t) past.stops in (
      found.0,
      record {
        picks = past.picks;
        travel = subst (λ f. IsTravel (closed n) count [] false past.picks f found.0)
            (without_strays-start n t) found.1;
        ends = ap without_strays past.ends ∙ without_strays-run n (handles past.picks) (start n t)
            ∙ ap (run (closed n) (handles past.picks)) (without_strays-start n t);
      },
    )

-- what it finds is the second copy, if there is one
finding-of_second_copy : (n : Net) (count : ℕ) (g : Flight) (x y : Finding)
    → second_copy_finding n g.carried ≡ Some x → finding (closed n) count (without_strays g) ≡ Some y → y ≡ x
finding-of_second_copy n count g x y e q = by (first_double [] g.carried) e q
  where
    by : (o : Option Copy) → option_map (finding_of_double n g.carried) o ≡ Some x
        → double_finding (closed n) count (without_strays g) o ≡ Some y → y ≡ x
    by None e q = absurd cc
    by (Some c) e q =
        let test = walk_visits-closed n g.carried c.lan (length g.carried) c.sender in
        let shut : cond (walk_visits (closed n) g.carried c.lan (length g.carried) c.sender) (Loop c.lan)
        (Duplicate c.lan) ≡ y = cc in
        let found : finding_of_double n g.carried c ≡ x = cc in
        sym shut ∙ ap (λ (b : Bool). cond b (Loop c.lan) (Duplicate c.lan)) test ∙ found

-- a run past strays with a second copy
pub is_closed_travel-of_second_copy : (n : Net) (count t : ℕ) (g : Flight) (x : Finding)
    → EndsPastStrays n (start n t) g → second_copy_finding n g.carried ≡ Some x
    → IsClosedTravel n count t g x
is_closed_travel-of_second_copy n count t g x past e =
    let found = is_closed_travel-past_strays n count t g past in
    let r = found.1 in
    let shown = finding-at_travel_end (closed n) count [] false r.picks (start (closed n) t)
    found.0 r.travel in
    let same = finding-of_second_copy n count g x found.0 e
    (ap (finding (closed n) count) r.ends ∙ shown) in
    subst (IsClosedTravel n count t g) same r

-- ---- what it shows

abbrev first_double_walk-of_closed : (n : Net) (g : Flight) (l : ℕ)
    → FirstDoubleWalk (closed n) (without_strays g) l → FirstDoubleWalk n g l
first_double_walk-of_closed n g l d = record {
  copy = d.copy;
  first = d.first;
  lan = d.lan;
  walk = d.walk;
  back = is_walk_back-of_closed n g.carried d.copy d.walk d.back;
}

-- a second copy of a LAN
abbrev pub IsSecondCopy : Finding → Type 0
IsSecondCopy Clean = ⊥
IsSecondCopy (Duplicate l) = ⊤
IsSecondCopy (Loop l) = ⊤
IsSecondCopy (Stray r v) = ⊥
IsSecondCopy (Missed l) = ⊥

-- what the carried copies show, if a LAN carried two, is a second copy
pub is_second_copy-of_finding : (n : Net) (cs : List Copy) (x : Finding) → second_copy_finding n cs ≡ Some x
    → IsSecondCopy x
is_second_copy-of_finding n cs x e = by (first_double [] cs) e
  where
    which : (b : Bool) (l : ℕ) (y : Finding) → cond b (Loop l) (Duplicate l) ≡ y → IsSecondCopy y
    which true l y e = subst IsSecondCopy e tt
    which false l y e = subst IsSecondCopy e tt

    by : (o : Option Copy) → option_map (finding_of_double n cs) o ≡ Some x → IsSecondCopy x
    by None e = absurd cc
    by (Some c) e = which (walk_visits n cs c.lan (length cs) c.sender) c.lan x cc

-- a second copy that a flight shows there, it shows here
shows-of_closed : (n : Net) (g : Flight) (x : Finding) → IsSecondCopy x
    → Shows (closed n) (without_strays g) x → Shows n g x
shows-of_closed n g Clean is shows = absurd is
shows-of_closed n g (Duplicate l) is shows = (first_double_walk-of_closed n g l shows.0, shows.1)
shows-of_closed n g (Loop l) is shows = (first_double_walk-of_closed n g l shows.0, shows.1)
shows-of_closed n g (Stray r v) is shows = absurd is
shows-of_closed n g (Missed l) is shows = absurd is

-- the travel's last flight shows its finding
shows-in_closed : (n : Net) (count t : ℕ) (g : Flight) (x : Finding) → WantsBelow n count
    → IsClosedTravel n count t g x → Shows (closed n) (without_strays g) x
shows-in_closed n count t g x wants r = subst (λ f. Shows (closed n) f x) (sym r.ends)
    (shows-travel_finding (closed n) count t [] false r.picks x wants r.travel)

-- the flight with which the run past strays ends shows what is found there
pub shows-past_strays : (n : Net) (count t : ℕ) (g : Flight) (x : Finding) → WantsBelow n count
    → EndsPastStrays n (start n t) g → second_copy_finding n g.carried ≡ Some x → Shows n g x
shows-past_strays n count t g x wants past e =
    shows-of_closed n g x (is_second_copy-of_finding n g.carried x e) (shows-in_closed n count t g x wants
    (is_closed_travel-of_second_copy n count t g x past e))

-- ---- from which TTL on packets show it

-- a path of a LAN's first copy is the same in both domains
first_came-of_closed : (n : Net) (cs : List Copy) (l : ℕ) (hs : List Hop) → FirstCameByHops (closed n) cs l hs
    → FirstCameByHops n cs l hs
first_came-of_closed n cs l hs first = record {
  first = first.first;
  first_on = first.first_on;
  came = came_by_hops-of_closed n cs first.first hs first.came;
}

-- so what rests on the paths of two copies is the same
two_copies-of_closed : (n : Net) (cs : List Copy) (l k : ℕ) → RestsOnTwoCopies (closed n) cs l k
    → RestsOnTwoCopies n cs l k
two_copies-of_closed n cs l k r = record {
  first_path = r.first_path;
  first = first_came-of_closed n cs l r.first_path r.first;
  second = r.second;
  first_double = r.first_double;
  on = r.on;
  second_path = r.second_path;
  came = came_by_hops-of_closed n cs r.second r.second_path r.came;
  need_is = r.need_is;
}

-- and the TTL from which on packets show a second copy
is_shown_from-of_closed : (n : Net) (cs : List Copy) (x : Finding) (k : ℕ) → IsSecondCopy x
    → IsShownFrom (closed n) cs x k → IsShownFrom n cs x k
is_shown_from-of_closed n cs Clean k is r = absurd is
is_shown_from-of_closed n cs (Duplicate l) k is r = two_copies-of_closed n cs l k r
is_shown_from-of_closed n cs (Loop l) k is r = two_copies-of_closed n cs l k r
is_shown_from-of_closed n cs (Stray r v) k is q = absurd is
is_shown_from-of_closed n cs (Missed l) k is r = absurd is

-- a second copy is a second copy or a stray
second_copy_or_stray-of_second_copy : (x : Finding) → IsSecondCopy x → IsSecondCopyOrStray x
second_copy_or_stray-of_second_copy Clean is = is
second_copy_or_stray-of_second_copy (Duplicate l) is = tt
second_copy_or_stray-of_second_copy (Loop l) is = tt
second_copy_or_stray-of_second_copy (Stray r v) is = tt
second_copy_or_stray-of_second_copy (Missed l) is = is

-- the second copy of a travel has a need of at most the packet's TTL
has_need-in_closed : (n : Net) (count s : ℕ) (g : Flight) (x : Finding) → IsNet n → WantsBelow n count → 1 ≤ s
    → IsSecondCopy x → IsClosedTravel n count s g x → HasNeedUpTo (closed n) g.carried x s
has_need-in_closed n count s g x net wants low is r =
    subst (λ (f : Flight). HasNeedUpTo (closed n) f.carried x s) (sym r.ends)
    (has_need-travel (closed n) count s [] false r.picks x (is_net-closed n net) wants low r.travel
    (second_copy_or_stray-of_second_copy x is))

-- packets with some TTL up to that of the run show it as well
pub has_need-past_strays : (n : Net) (count s : ℕ) (g : Flight) (x : Finding) → IsNet n → WantsBelow n count
    → 1 ≤ s → EndsPastStrays n (start n s) g → second_copy_finding n g.carried ≡ Some x
    → HasNeedUpTo n g.carried x s
has_need-past_strays n count s g x net wants low past e =
    let is = is_second_copy-of_finding n g.carried x e in
    let has = has_need-in_closed n count s g x net wants low is
    (is_closed_travel-of_second_copy n count s g x past e) in
    (has.0, is_shown_from-of_closed n g.carried x has.0 is has.1, has.2)

-- a flight that shows a second copy without its strays shows it with them
has_fault-of_closed : (f : Flight) (x : Finding) → IsSecondCopy x → HasFault x (without_strays f)
    → HasFault x f
has_fault-of_closed f Clean is h = absurd is
has_fault-of_closed f (Duplicate l) is h = h
has_fault-of_closed f (Loop l) is h = h
has_fault-of_closed f (Stray r v) is h = absurd is
has_fault-of_closed f (Missed l) is h = absurd is

-- each packet with at least that TTL carries two copies there
pub each_complete_run_has-past_strays : (n : Net) (count s t k : ℕ) (g : Flight) (x : Finding) → IsNet n
    → WantsBelow n count → 1 ≤ s → EndsPastStrays n (start n s) g → second_copy_finding n g.carried ≡ Some x
    → IsShownFrom n g.carried x k → k ≤ t → EachCompleteRunHasFault n t x
each_complete_run_has-past_strays n count s t k g x net wants low past e shown le ps complete =
    let is = is_second_copy-of_finding n g.carried x e in
    let r = is_closed_travel-of_second_copy n count s g x past e in
    let has = has_need-in_closed n count s g x net wants low is r in
    let same : has.0 ≡ k = need-unique n g.carried x has.0 k net
    (is_shown_from-of_closed n g.carried x has.0 is has.1) shown in
    let at = subst (λ (f : Flight). IsShownFrom (closed n) f.carried x has.0) r.ends has.1 in
    let fault = each_complete_run_has_fault (closed n) count s t has.0 [] false r.picks x x
    (is_net-closed n net)
    r.travel at (omega (arith, same, le)) ps (is_complete_run-closed n t ps complete) in
    has_fault-of_closed (run n ps (start n t)) x is (subst (HasFault x)
    (sym (without_strays-run n ps (start n t) ∙ ap (run (closed n) ps) (without_strays-start n t))) fault)

-- ---- the paths of its copies

-- the hops by which a copy came are fewer than the carried copies
pub came_by_few_hops-past_strays : (n : Net) (count t : ℕ) (g : Flight) (c : Copy) (hs : List Hop) → IsNet n
    → EndsPastStrays n (start n t) g → In c g.carried → CameByHops n g.carried c hs
    → length hs < length g.carried
came_by_few_hops-past_strays n count t g c hs net past c_in by =
    let found = is_closed_travel-past_strays n count t g past in
    let r = found.1 in
    let there = subst (λ (f : Flight). In c f.carried) r.ends c_in in
    let path = came_by_hops (closed n) count t [] false r.picks found.0 c r.travel there in
    let few = came_by_hops-fewer_than_copies (closed n) count t [] false r.picks found.0 c path.0
    r.travel there path.1 in
    let here = subst (λ (f : Flight). CameByHops (closed n) f.carried c path.0) (sym r.ends) path.1 in
    let same = came_by_hops-unique n g.carried c hs path.0 net by
    (came_by_hops-of_closed n g.carried c path.0 here) in
    let short : length path.0 < length g.carried =
    subst (λ (f : Flight). length path.0 < length f.carried) (sym r.ends) few in
    subst (λ (ks : List Hop). length ks < length g.carried) (sym same) short

-- a loop's second copy came from its own LAN by the hops that are followed back
pub came_from_lan-past_strays : (n : Net) (count t l : ℕ) (g : Flight) (c : Copy) → IsNet n
    → WantsBelow n count → EndsPastStrays n (start n t) g → second_copy_finding n g.carried ≡ Some (Loop l)
    → IsFirstDouble g.carried c → (c.lan ≡ l)
    × CameFromLan n g.carried l c (hops_of_copy_until n g.carried l c)
came_from_lan-past_strays n count t l g c net wants past e first =
    let r = is_closed_travel-of_second_copy n count t g (Loop l) past e in
    let shows = subst (λ f. Shows (closed n) f (Loop l)) r.ends
    (shows-in_closed n count t g (Loop l) wants r) in
    let double = subst (λ (f : Flight). IsFirstDouble f.carried c) r.ends first in
    let from = came_from_lan-from_loop (closed n) count t [] false r.picks (Loop l) l c r.travel
    shows double in
    let hs = from.1.0 in
    let few = came_from_lan-fewer_than_copies (closed n) count t [] false r.picks (Loop l) l c hs r.travel
    (in-first_double (run (closed n) (handles r.picks) (start (closed n) t)).carried c double) from.1.1 in
    let here = came_from_lan-of_closed n g.carried l c hs
    (subst (λ (f : Flight). CameFromLan (closed n) f.carried l c hs) (sym r.ends) from.1.1) in
    let short : length hs < length g.carried =
    subst (λ (f : Flight). length hs < length f.carried) (sym r.ends) few in
    let found = hops_until-came_from_lan n g.carried l (length g.carried) c hs net here
    (omega (arith, short)) in
    (from.0, subst (CameFromLan n g.carried l c) (sym found) here)

-- ---- it ends

-- where the run goes on, no LAN carried two copies
pub goes_on-once : (f : Flight) → goes_on f ≡ true → first_double [] f.carried ≡ None
goes_on-once f e = by (first_double [] f.carried) e
  where
    by : (o : Option Copy) → (not (is_some o) && nat_lt 0 (length f.waiting)) ≡ true → o ≡ None
    by None e = refl
    by (Some c) e = absurd cc

-- and some copy waits
pub goes_on-waits : (f : Flight) → goes_on f ≡ true → 0 < length f.waiting
goes_on-waits f e = by (first_double [] f.carried) e
  where
    by : (o : Option Copy) → (not (is_some o) && nat_lt 0 (length f.waiting)) ≡ true → 0 < length f.waiting
    by None e = ltb-true 0 (length f.waiting) e
    by (Some c) e = absurd cc

-- where k copies were handled and the run goes on, that many and one more are at most the placed interfaces
pub handled_count-below_placed : (n : Net) (k : ℕ) (f : Flight) → HandledCountIs n k f → goes_on f ≡ true
    → k < length (placed_interfaces n)
handled_count-below_placed n k f count e =
    let waits = goes_on-waits f e in
    let most = hearer_count-at_most_placed n f (first_double-none [] f.carried (goes_on-once f e)).0 in
    omega (arith, count, waits, most)

-- from its last flight it doesn't go on
goes_on-not_at_end : (n : Net) (is : List ℕ) (f : Flight) → IsRunPastStrays n is f
    → goes_on (run n (handles is) f) ≡ false
goes_on-not_at_end n [] f stops = stops
goes_on-not_at_end n (i ∷ is) f stops = goes_on-not_at_end n is (step n i f) stops.2

-- where the run ends with no LAN that carried two copies, no copy waits
pub none_waits-past_strays : (n : Net) (f g : Flight) → EndsPastStrays n f g
    → first_double [] g.carried ≡ None → g.waiting ≡ []
none_waits-past_strays n f g past once =
    by (first_double [] g.carried) g.waiting once
    (ap goes_on past.ends ∙ goes_on-not_at_end n past.picks f past.stops)
  where
    by : (o : Option Copy) (ws : List Waiting) → o ≡ None → (not (is_some o) && nat_lt 0 (length ws)) ≡ false
        → ws ≡ []
    by None [] none e = refl
    by None (w ∷ ws) none e = absurd (let z = ltb-false 0 (length (w ∷ ws)) e in omega (arith, z))
    by (Some c) ws none e = absurd cc

-- ---- no other run

-- there is one run past strays from a flight
is_run_past_strays-unique : (n : Net) (is js : List ℕ) (f : Flight) → IsRunPastStrays n is f
    → IsRunPastStrays n js f → is ≡ js
is_run_past_strays-unique n [] [] f p q = refl
is_run_past_strays-unique n [] (j ∷ js) f p q = absurd (let both : false ≡ true = sym p ∙ q.0 in cc)
is_run_past_strays-unique n (i ∷ is) [] f p q = absurd (let both : false ≡ true = sym q ∙ p.0 in cc)
is_run_past_strays-unique n (i ∷ is) (j ∷ js) f p q =
    let same : i ≡ j = p.1 ∙ sym q.1 in
    let more = is_run_past_strays-unique n is js (step n j f)
    (subst (λ (k : ℕ). IsRunPastStrays n is (step n k f)) same p.2) q.2 in
    λ k. same k ∷ more k

-- the run past strays ends with one flight alone
pub ends_past_strays-unique : (n : Net) (f g h : Flight) → EndsPastStrays n f g → EndsPastStrays n f h → g ≡ h
ends_past_strays-unique n f g h p q =
    p.ends ∙ ap (λ (is : List ℕ). run n (handles is) f)
    (is_run_past_strays-unique n p.picks q.picks f p.stops q.stops) ∙ sym q.ends
