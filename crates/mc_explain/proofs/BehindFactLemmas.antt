-- What is said to be behind a stray is true of a run of the flow.
use Rattle.std.proofs.Common.{◌≡◌, ℕ, ◌≤◌, ◌==◌, inl, inr, Bool, true, false, cond, List, [], ◌∷◌, ◌++◌}
use Rattle.std.proofs.Common.{filter, length, map, Option, Some, None, is_some, refl, ap, sym, subst}
use Rattle.std.proofs.Common.{◌∙◌, arith}
use Rattle.std.specs.Prelude.{is_none, option_and_then, option_map, reverse}
use Rattle.std.proofs.lemmas.Bool.{and_parts}
use Rattle.mc_topology.specs.Topology.{TopologyValue}
use Rattle.mc_theory.specs.Lists.{In, below}
use Rattle.mc_theory.specs.Nets.{Net, Interface}
use Rattle.mc_theory.specs.Flights.{Copy, Flight, start}
use Rattle.mc_theory.specs.Certificates.{lans}
use Rattle.mc_theory.specs.Findings.{Finding, first_copy_on, first_double, sender_on}
use Rattle.mc_theory.specs.Findings.Finding.{Duplicate, Loop}
use Rattle.mc_theory.specs.FindingMeaning.{FirstDoubleWalk, Shows}
use Rattle.mc_theory.specs.Hops.{hops_of_copy_until}
use Rattle.mc_theory.specs.ShownFrom.{EachCompleteRunHasFault, IsShownFrom}
use Rattle.mc_theory.proofs.SpareInterface.{earlier_copy-of_first_double}
use Rattle.mc_theory.proofs.Travels.{first_copy_on-from_in_lans}
use Rattle.mc_forward.specs.Domains.{DomainValue, IsDomain, net_of}
use Rattle.mc_forward.proofs.DomainLemmas.{is_net-net_of, wants-below_lan_count}
use Rattle.mc_replay.specs.FindingValues.{optional_finding_value}
use Rattle.mc_replay.specs.PastStrays.{EndsPastStrays, finding_of_double, second_copy_finding}
use Rattle.mc_replay.proofs.ClosedNetLemmas.{in_filter-in_list}
use Rattle.mc_replay.proofs.PastStraysLemmas.{came_from_lan-past_strays, each_complete_run_has-past_strays}
use Rattle.mc_replay.proofs.PastStraysLemmas.{none_waits-past_strays, shows-past_strays}
use Rattle.mc_replay.proofs.WalkLemmas.{sender-copy_on}
use Rattle.mc_explain.specs.Behind.{IsBehind, double_causes, is_missed, is_other_leak, missed_lans}
use Rattle.mc_explain.specs.Behind.{missed_unless_open, open_routers, second_causes, second_shown_from}
use Rattle.mc_explain.specs.Behind.{unless_second}
use Rattle.mc_explain.specs.BehindFacts.{HasCircle, HasSenders, IsTrueBehind}
use Rattle.mc_explain.specs.Explained.{circle_cause, sender_causes}
use Rattle.mc_explain.specs.ShownNeed.{need_of_two_copies}
use Rattle.mc_explain.specs.declared.causes.Cause.{Cause}
use Rattle.mc_explain.specs.declared.causes.behind.Behind.{Behind}
use Rattle.mc_explain.proofs.BehindLemmas.{is_shown_from-of_second}
use Rattle.mc_explain.proofs.LastFlightLemmas.{first_double-from_is_first_double}

-- ---- a second copy

-- the causes are those of the first double copy, by what that shows
second_causes-of_double : (n : Net) (cs : List Copy) (o : Option Copy) (c : Copy) (x : Finding)
    (causes : List Cause) → causes ≡ second_causes n cs o → o ≡ Some c
    → option_map (finding_of_double n cs) o ≡ Some x → causes ≡ double_causes n cs c x
second_causes-of_double n cs o c x causes are double found =
    let same : ◌≡◌ {A = Option Finding} (Some (finding_of_double n cs c)) (Some x) =
    sym (ap (option_map (finding_of_double n cs)) double) ∙ found in
    let shown : finding_of_double n cs c ≡ x = cc in
    are ∙ ap (second_causes n cs) double ∙ ap (double_causes n cs c) shown

-- the sender of a LAN's first copy
sender_on-first : (cs : List Copy) (l : ℕ) (a : Copy) → first_copy_on cs l ≡ Some a
    → sender_on cs l ≡ a.sender
sender_on-first cs l a on = sym (sender-copy_on cs l) ∙ ap (option_and_then (λ (c : Copy). c.sender)) on

-- a duplicate has senders, which its causes name
has_senders-of_duplicate : (n : Net) (g : Flight) (lan : ℕ) (causes : List Cause)
    → FirstDoubleWalk n g lan → causes ≡ second_causes n g.carried (first_double [] g.carried)
    → second_copy_finding n g.carried ≡ Some (Duplicate lan) → HasSenders g.carried lan causes
has_senders-of_duplicate n g lan causes d are found =
    let cs = g.carried in
    let c = d.copy in
    let double = first_double-from_is_first_double cs c d.first in
    let a = earlier_copy-of_first_double cs c d.first in
    let of_double = second_causes-of_double n cs (first_double [] cs) c (Duplicate lan) causes are
    double found in
    let here : HasSenders cs c.lan causes = record {
      first = a.0;
      second = c;
      first_on = a.1;
      is_double = d.first;
      on = refl;
      causes_are = of_double ∙ ap (λ (x : Option Interface). sender_causes c.lan x ++ sender_causes
          c.lan c.sender) (sender_on-first cs c.lan a.0 a.1);
    } in
    subst (λ (l : ℕ). HasSenders cs l causes) d.lan here

-- a loop has a circle, which its causes name
has_circle-of_loop : (d : DomainValue) (flow : ℕ) (g : Flight) (lan : ℕ) (causes : List Cause) → IsDomain d
    → EndsPastStrays (net_of d flow) (start (net_of d flow) 255) g → FirstDoubleWalk (net_of d flow) g lan
    → causes ≡ second_causes (net_of d flow) g.carried (first_double [] g.carried)
    → second_copy_finding (net_of d flow) g.carried ≡ Some (Loop lan)
    → HasCircle (net_of d flow) g.carried lan causes
has_circle-of_loop d flow g lan causes ok past w are found =
    let n = net_of d flow in
    let cs = g.carried in
    let c = w.copy in
    let double = first_double-from_is_first_double cs c w.first in
    let from = came_from_lan-past_strays n (length d.topology.lans) 255 lan g c (is_net-net_of d flow ok)
    (λ l wants. wants-below_lan_count d flow l ok wants) past found w.first in
    record {
      second = c;
      is_double = w.first;
      on = from.0;
      circle = hops_of_copy_until n cs lan c;
      came_by_hops = from.1;
      causes_are = second_causes-of_double n cs (first_double [] cs) c (Loop lan) causes are double found
          ∙ ap (λ (l : ℕ). reverse (map circle_cause (hops_of_copy_until n cs l c))) from.0;
    }

-- the TTL that is said is the need of the first double copy
shown_from-is_need : (n : Net) (cs : List Copy) (o : Option Copy) (c : Copy) (k : ℕ)
    → second_shown_from n cs o ≡ Some k → o ≡ Some c → need_of_two_copies n cs c.lan ≡ k
shown_from-is_need n cs o c k is double =
    by (n.ttl == 255) (sym (ap (second_shown_from n cs) double) ∙ is)
  where
    by : (b : Bool) → cond b None (Some (need_of_two_copies n cs c.lan)) ≡ Some k
        → need_of_two_copies n cs c.lan ≡ k
    by true e = absurd cc
    by false e = cc

-- what a second copy shows is of the first double copy
double-of_finding : (n : Net) (cs : List Copy) (x : Finding) → second_copy_finding n cs ≡ Some x
    → (c : Copy) × (first_double [] cs ≡ Some c) × (finding_of_double n cs c ≡ x)
double-of_finding n cs x e = by (first_double [] cs) refl e
  where
    by : (o : Option Copy) → first_double [] cs ≡ o → option_map (finding_of_double n cs) o ≡ Some x
        → (c : Copy) × (first_double [] cs ≡ Some c) × (finding_of_double n cs c ≡ x)
    by None q e = absurd cc
    by (Some c) q e = (c, q, cc)

-- each complete run with such a TTL has the fault
second_is_shown : (d : DomainValue) (flow : ℕ) (g : Flight) (x : Finding) (k t : ℕ)
    → IsDomain d → EndsPastStrays (net_of d flow) (start (net_of d flow) 255) g
    → second_copy_finding (net_of d flow) g.carried ≡ Some x
    → second_shown_from (net_of d flow) g.carried (first_double [] g.carried) ≡ Some k → k ≤ t
    → EachCompleteRunHasFault (net_of d flow) t x
second_is_shown d flow g x k t ok past found is le =
    let n = net_of d flow in
    let c = double-of_finding n g.carried x found in
    let from = is_shown_from-of_second d flow g c.0 ok past c.1 in
    let need = shown_from-is_need n g.carried (first_double [] g.carried) c.0 k is c.1 in
    let shown = subst (IsShownFrom n g.carried x) need (subst (λ (y : Finding).
    IsShownFrom n g.carried y (need_of_two_copies n g.carried c.0.lan)) c.2 from.0) in
    each_complete_run_has-past_strays n (length d.topology.lans) 255 t k g x (is_net-net_of d flow ok)
    (λ l wants. wants-below_lan_count d flow l ok wants) (omega arith) past found shown le

-- ---- strays, and LANs that are missed

-- what was picked passes the test
in_filter-passes : {A : Type 0} (p : A → Bool) (x : A) (xs : List A) → In x (filter p xs) → p x ≡ true
in_filter-passes p x [] h = absurd h
in_filter-passes p x (y ∷ ys) h = by (p y) refl (in_filter-passes p x ys) h
  where
    by : (b : Bool) → p y ≡ b → (In x (filter p ys) → p x ≡ true)
        → In x (cond b (y ∷ filter p ys) (filter p ys)) → p x ≡ true
    by true q rest (inl e) = sym (ap p e) ∙ q
    by true q rest (inr k) = rest k
    by false q rest k = rest k

-- the strays that are said are strays of the run
strays-of_run : (n : Net) (own : Interface) (o : Option Copy) (strays : List Interface) (i : Interface)
    → In i (unless_second o (filter (is_other_leak n own) strays)) → In i strays
strays-of_run n own None strays i h = in_filter-in_list (is_other_leak n own) i strays h
strays-of_run n own (Some c) strays i h = absurd h

-- the LANs that are said are missed
in_missed-unless_open : (whole : Bool) (rs lans : List ℕ) (l : ℕ) → In l (missed_unless_open whole rs lans)
    → In l lans
in_missed-unless_open true [] lans l h = h
in_missed-unless_open true (r ∷ rs) lans l h = absurd h
in_missed-unless_open false rs lans l h = absurd h

-- a missed LAN wants the flow, and carries no copy
missed-carries_none : (n : Net) (cs : List Copy) (l : ℕ) → is_missed n cs l ≡ true
    → (n.wants l ≡ true) × (In l (lans cs) → ⊥)
missed-carries_none n cs l is =
    let parts = and_parts (n.wants l) (is_none (first_copy_on cs l)) is in (
      parts.0,
      λ h. by (first_copy_on cs l) parts.1 (first_copy_on-from_in_lans cs l h),
    )
  where
    by : (o : Option Copy) → is_none o ≡ true → is_some o ≡ true → ⊥
    by None none some = absurd cc
    by (Some c) none some = absurd cc

-- so it is in a run that is complete
missed-in_run : (t : TopologyValue) (n : Net) (whole : Bool) (f g : Flight) (o : Option Copy) (l : ℕ)
    → first_double [] g.carried ≡ o → EndsPastStrays n f g
    → In l (unless_second o (missed_unless_open whole (open_routers n g.strays) (missed_lans t n g.carried)))
    → (g.waiting ≡ []) × (n.wants l ≡ true) × (In l (lans g.carried) → ⊥)
missed-in_run t n whole f g (Some c) l double past h = absurd h
missed-in_run t n whole f g None l double past h =
    let at = in_missed-unless_open whole (open_routers n g.strays) (missed_lans t n g.carried) l h in
    let m = missed-carries_none n g.carried l
    (in_filter-passes (is_missed n g.carried) l (below (length t.lans)) at) in
    (none_waits-past_strays n f g past double, m.0, m.1)

-- ---- all of it

-- all that is said is true
pub is_true-behind : (whole : Bool) (d : DomainValue) (flow : ℕ) (own : Interface) (b : Behind) → IsDomain d
    → IsBehind whole d flow own b → IsTrueBehind d flow b
is_true-behind whole d flow own b ok h =
    let n = net_of d flow in
    let g = h.flight in
    let s = h.shows in
    let shows : (x : Finding) → optional_finding_value b.finding ≡ Some x → Shows n g x = λ x e.
    shows-past_strays n (length d.topology.lans) 255 g x
    (λ l wants. wants-below_lan_count d flow l ok wants) h.run
    (sym s.finding ∙ e) in
    record {
      flight = g;
      run = h.run;
      shows = shows;
      duplicate = λ lan e. has_senders-of_duplicate n g lan b.causes.items
          (shows (Duplicate lan) e).0 s.causes (sym s.finding ∙ e);
      loop_back = λ lan e. has_circle-of_loop d flow g lan b.causes.items ok h.run
          (shows (Loop lan) e).0 s.causes (sym s.finding ∙ e);
      shown = λ x k t e from le. second_is_shown d flow g x k t ok h.run
          (sym s.finding ∙ e) (sym s.shown ∙ from) le;
      strays = λ i k. strays-of_run n own (first_double [] g.carried) g.strays i (subst (In i) s.strays k);
      missed = λ l k. missed-in_run d.topology n whole (start n 255) g
          (first_double [] g.carried) l refl h.run (subst (In l) s.missed k);
    }
