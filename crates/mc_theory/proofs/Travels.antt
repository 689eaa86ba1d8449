-- What the finding of a travel shows.
use Rattle.std.proofs.Common.{◌≡◌, ◌≢◌, ℕ, suc, ◌+◌, ◌<◌, ◌≤◌, inl, inr, Bool, true, false, cond}
use Rattle.std.proofs.Common.{◌==◌, List, [], ◌∷◌, length, Option, Some, None, is_some, refl, ap}
use Rattle.std.proofs.Common.{sym, ◌∙◌, subst, arith, eqb-true, ◌++◌, ◌⊎◌, ◌↔◌}
use Rattle.std.proofs.lemmas.Bool.{eqb-false}
use Rattle.mc_theory.specs.Lists.{In, Distinct, below}
use Rattle.mc_theory.specs.Nets.{Net, IsNet, Interface, WantsBelow, placed_interfaces}
use Rattle.mc_theory.specs.Flights.{Copy, Waiting, Flight, start, step, run, InRange, IsLossless}
use Rattle.mc_theory.specs.Certificates.{Entry, IsTree, IsServed, IsAccepted, IsRight, lans}
use Rattle.mc_theory.specs.Certificates.{IsClean}
use Rattle.mc_theory.specs.Findings.{Finding, first_copy_on, first_double, walk_visits, missed}
use Rattle.mc_theory.specs.Findings.{missed_finding}
use Rattle.mc_theory.specs.Findings.{end_finding, stray_finding, double_finding, finding, choice}
use Rattle.mc_theory.specs.Findings.{numbers_left, IsTravel, IsTravelUnfinished, handles}
use Rattle.mc_theory.specs.Findings.Finding.{Clean, Duplicate, Loop, Stray, Missed}
use Rattle.mc_theory.proofs.ListLemmas.{in-append_left, in-push, in-push_cases, in-map, in-map_cases}
use Rattle.mc_theory.proofs.ListLemmas.{in-below}
use Rattle.mc_theory.proofs.CopyAndStepBounds.{HandledCountIs, handled_count-start}
use Rattle.mc_theory.proofs.CopyAndStepBounds.{handled_count-step, hearer_count-at_most_placed}
use Rattle.mc_theory.specs.CertificateOfCopies.{entries_of}
use Rattle.mc_theory.proofs.SafeFlights.{safe-lossless}
use Rattle.mc_theory.proofs.ReachedLans.{is_delivered-from_safe}
use Rattle.mc_theory.proofs.CertificateOfCopies.{is_accepted-from_two_runs, is_tree-from_clean_run}

-- a copy's LAN
abbrev lan : Copy → ℕ
lan c = c.lan

-- ---- a LAN's first copy

-- by whether the first copy is on the LAN
in_lans-from_first_copy_on_step : (c : Copy) (cs : List Copy) (l : ℕ) (b : Bool) → (c.lan == l) ≡ b →
    is_some (cond b (Some c) (first_copy_on cs l)) ≡ true → (is_some (first_copy_on cs l) ≡ true →
    In l (lans cs)) → In l (lans (c ∷ cs))
in_lans-from_first_copy_on_step c cs l true q h ih = inl (eqb-true c.lan l q)
in_lans-from_first_copy_on_step c cs l false q h ih = inr (ih h)

-- a LAN with a first copy carried one
pub in_lans-from_first_copy_on : (cs : List Copy) (l : ℕ) → is_some (first_copy_on cs l) ≡ true →
    In l (lans cs)
in_lans-from_first_copy_on [] l h = absurd cc
in_lans-from_first_copy_on (c ∷ cs) l h =
    in_lans-from_first_copy_on_step c cs l (c.lan == l) refl h (in_lans-from_first_copy_on cs l)

-- by whether the first copy is on the LAN
first_copy_on-from_in_lans_step : (c : Copy) (cs : List Copy) (l : ℕ) (b : Bool) → (c.lan == l) ≡ b →
    In l (lans (c ∷ cs)) → (In l (lans cs) → is_some (first_copy_on cs l) ≡ true) →
    is_some (cond b (Some c) (first_copy_on cs l)) ≡ true
first_copy_on-from_in_lans_step c cs l true q h ih = refl
first_copy_on-from_in_lans_step c cs l false q (inl e) ih = absurd (eqb-false c.lan l q e)
first_copy_on-from_in_lans_step c cs l false q (inr h) ih = ih h

-- a LAN that carried a copy has a first one
pub first_copy_on-from_in_lans : (cs : List Copy) (l : ℕ) → In l (lans cs) →
    is_some (first_copy_on cs l) ≡ true
first_copy_on-from_in_lans [] l h = absurd h
first_copy_on-from_in_lans (c ∷ cs) l h =
    first_copy_on-from_in_lans_step c cs l (c.lan == l) refl h (first_copy_on-from_in_lans cs l)

-- ---- the first double copy

-- the LAN of the new copy
in_lans-push : (cs : List Copy) (c : Copy) → In c.lan (lans (cs ++ c ∷ []))
in_lans-push cs c = in-map lan c (cs ++ c ∷ []) (in-push cs c)

-- a LAN of the old copies
in_lans-push_old : (cs : List Copy) (c : Copy) (l : ℕ) → In l (lans cs) → In l (lans (cs ++ c ∷ []))
in_lans-push_old cs c l h = let d = in-map_cases lan l cs h in subst (λ x. In x (lans (cs ++ c ∷ []))) d.2
    (in-map lan d.0 (cs ++ c ∷ []) (in-append_left d.0 cs (c ∷ []) d.1))

-- a LAN of both is one of them
in_lans-push_cases : (cs : List Copy) (c : Copy) (l : ℕ) → In l (lans (cs ++ c ∷ [])) →
    (c.lan ≡ l) ⊎ In l (lans cs)
in_lans-push_cases cs c l h =
    let d = in-map_cases lan l (cs ++ c ∷ []) h in
    elim (in-push_cases d.0 cs c d.1) [
      | inl k ↦ inr (subst (λ x. In x (lans cs)) d.2
          (in-map lan d.0 cs k))
      | inr q ↦ inl (ap lan q ∙ d.2)
    ]

-- by whether the first copy is a double one
first_double-none_step : (earlier : List Copy) (c : Copy) (cs : List Copy) (b : Bool) →
    is_some (first_copy_on earlier c.lan) ≡ b → cond b (Some c) (first_double (earlier ++ c ∷ []) cs) ≡ None →
    (In c.lan (lans earlier) → ⊥) × (first_double (earlier ++ c ∷ []) cs ≡ None)
first_double-none_step earlier c cs true q h = absurd cc
first_double-none_step earlier c cs false q h =
    ((λ z. let y = first_copy_on-from_in_lans earlier c.lan z in absurd cc), h)

-- without a double copy LANs are distinct, and other than earlier ones
pub first_double-none : (earlier cs : List Copy) → first_double earlier cs ≡ None →
    Distinct (lans cs) × ((l : ℕ) → In l (lans earlier) → In l (lans cs) → ⊥)
first_double-none earlier [] h = (tt, λ l k z. z)
first_double-none earlier (c ∷ cs) h =
    let two = first_double-none_step earlier c cs (is_some (first_copy_on earlier c.lan)) refl h in
    let more = first_double-none (earlier ++ c ∷ []) cs two.1 in (
      ((λ z. more.1 c.lan (in_lans-push earlier c) z), more.0),
      λ l k z. elim z [
        | inl q ↦ two.0 (subst (λ x. In x (lans earlier)) (sym q) k)
        | inr y ↦ more.1
            l (in_lans-push_old earlier c l k) y
      ],
    )

-- by whether the first copy is a double one
first_double-from_distinct_step : (earlier : List Copy) (c : Copy) (cs : List Copy) (b : Bool) →
    is_some (first_copy_on earlier c.lan) ≡ b → (In c.lan (lans earlier) → ⊥) →
    first_double (earlier ++ c ∷ []) cs ≡ None → cond b (Some c) (first_double (earlier ++ c ∷ []) cs) ≡ None
first_double-from_distinct_step earlier c cs true q no_copy h =
    absurd (no_copy (in_lans-from_first_copy_on earlier c.lan q))
first_double-from_distinct_step earlier c cs false q no_copy h = h

-- and the converse
first_double-from_distinct : (earlier cs : List Copy) → Distinct (lans cs) →
    ((l : ℕ) → In l (lans earlier) → In l (lans cs) → ⊥) → first_double earlier cs ≡ None
first_double-from_distinct earlier [] d apart = refl
first_double-from_distinct earlier (c ∷ cs) d apart = first_double-from_distinct_step earlier c cs
    (is_some (first_copy_on earlier c.lan)) refl (λ z. apart c.lan z (inl refl))
    (first_double-from_distinct (earlier ++ c ∷ []) cs d.1 (λ l k z. elim (in_lans-push_cases earlier c l k)
    [ inl q ↦ d.0 (subst (λ x. In x (lans cs)) (sym q) z) | inr y ↦ apart l y (inr z) ]))

-- ---- LANs that were missed

-- by whether the first LAN is missed
missed-none_step : (n : Net) (cs : List Copy) (l : ℕ) (ls : List ℕ) (w b : Bool) → n.wants l ≡ w →
    is_some (first_copy_on cs l) ≡ b → cond w (cond b (missed n cs ls) (Some l)) (missed n cs ls) ≡ None →
    (n.wants l ≡ true → In l (lans cs)) × (missed n cs ls ≡ None)
missed-none_step n cs l ls true true p q h = ((λ _. in_lans-from_first_copy_on cs l q), h)
missed-none_step n cs l ls true false p q h = absurd cc
missed-none_step n cs l ls false b p q h = ((λ z. absurd cc), h)

-- where none is missed, each wanting LAN carried a copy
pub missed-none : (n : Net) (cs : List Copy) (ls : List ℕ) → missed n cs ls ≡ None → (l : ℕ) →
    In l ls → n.wants l ≡ true → In l (lans cs)
missed-none n cs [] h l k w = absurd k
missed-none n cs (x ∷ ls) h l (inl q) w = subst (λ y. In y (lans cs)) q
    ((missed-none_step n cs x ls (n.wants x) (is_some (first_copy_on cs x)) refl refl h).0 (ap n.wants q ∙ w))
missed-none n cs (x ∷ ls) h l (inr k) w = missed-none n cs ls
    (missed-none_step n cs x ls (n.wants x) (is_some (first_copy_on cs x)) refl refl h).1 l k w

-- by whether the first LAN is missed
missed-some_step : (n : Net) (cs : List Copy) (x : ℕ) (ls : List ℕ) (l : ℕ) (w b : Bool) →
    n.wants x ≡ w → is_some (first_copy_on cs x) ≡ b → cond w (cond b (missed n cs ls) (Some x))
    (missed n cs ls) ≡ Some l → (missed n cs ls ≡ Some l →
    (n.wants l ≡ true) × (In l (lans cs) → ⊥)) → (n.wants l ≡ true) × (In l (lans cs) → ⊥)
missed-some_step n cs x ls l true true p q h ih = ih h
missed-some_step n cs x ls l true false p q h ih =
    let same : x ≡ l = cc in (
      ap n.wants (sym same) ∙ p,
      λ z. let y = first_copy_on-from_in_lans cs l z in let k : is_some (first_copy_on cs l) ≡
          false = ap (λ (a : ℕ). is_some (first_copy_on cs a)) (sym same) ∙ q in absurd cc,
    )
missed-some_step n cs x ls l false b p q h ih = ih h

-- a missed LAN wants the flow and carried no copy
pub missed-some : (n : Net) (cs : List Copy) (ls : List ℕ) (l : ℕ) → missed n cs ls ≡ Some l →
    (n.wants l ≡ true) × (In l (lans cs) → ⊥)
missed-some n cs [] l h = absurd cc
missed-some n cs (x ∷ ls) l h = missed-some_step n cs x ls l (n.wants x) (is_some (first_copy_on cs x))
    refl refl h (missed-some n cs ls l)

-- ---- what findings mean

-- no finding: clean, and something waits
pub finding-none : (n : Net) (count : ℕ) (f : Flight) → finding n count f ≡ None →
    IsClean f × (0 < length f.waiting)
finding-none n count f h = by n count f (first_double [] f.carried) refl h
  where
    ended : (n : Net) (count : ℕ) (cs : List Copy) (ws : List Waiting) →
        end_finding n count cs ws ≡ None → 0 < length ws
    ended n count cs [] h = absurd cc
    ended n count cs (w ∷ ws) h = omega arith

    strayed : (n : Net) (count : ℕ) (cs : List Copy) (ws : List Waiting) (is : List Interface) →
        stray_finding n count cs ws is ≡ None → (is ≡ []) × (0 < length ws)
    strayed n count cs ws [] h = (refl, ended n count cs ws h)
    strayed n count cs ws (i ∷ is) h = absurd cc

    by : (n : Net) (count : ℕ) (f : Flight) (o : Option Copy) → first_double [] f.carried ≡ o →
        double_finding n count f o ≡ None → IsClean f × (0 < length f.waiting)
    by n count f None q h = let s = strayed n count f.carried f.waiting f.strays
        h in (record { once = (first_double-none [] f.carried q).0; none_stray = s.0 }, s.1)
    by n count f (Some c) q h = absurd cc

-- a clean flight's finding
pub finding-of_clean_flight : (n : Net) (count : ℕ) (f : Flight) → IsClean f →
    finding n count f ≡ end_finding n count f.carried f.waiting
finding-of_clean_flight n count f clean = ap (double_finding n count f)
    (first_double-from_distinct [] f.carried clean.once (λ l k z. k)) ∙
    ap (stray_finding n count f.carried f.waiting) clean.none_stray

-- another finding than Clean: a LAN is missed
missed_finding-not_clean : (n : Net) (cs : List Copy) (o : Option ℕ) (x : Finding) → missed_finding o ≡ x →
    x ≢ Clean → (l : ℕ) × (o ≡ Some l)
missed_finding-not_clean n cs None x h other = absurd (other (sym h))
missed_finding-not_clean n cs (Some l) x h other = (l, refl)

-- another finding than Clean of a clean flight: nothing waits, and a wanting LAN was missed
end_finding-not_clean : (n : Net) (count : ℕ) (cs : List Copy) (ws : List Waiting) (x : Finding) →
    end_finding n count cs ws ≡ Some x → x ≢ Clean → (ws ≡ []) ×
    ((l : ℕ) × (n.wants l ≡ true) × (In l (lans cs) → ⊥))
end_finding-not_clean n count cs [] x h other =
    let same : missed_finding (missed n cs (below count)) ≡ x = cc in
    let m = missed_finding-not_clean n cs (missed n cs (below count)) x same other in
    let s = missed-some n cs (below count) m.0 m.1 in
    (refl, (m.0, s.0, s.1))
end_finding-not_clean n count cs (w ∷ ws) x h other = absurd cc

-- Clean: none is
missed_finding-clean : (o : Option ℕ) → missed_finding o ≡ Clean → o ≡ None
missed_finding-clean None h = refl
missed_finding-clean (Some l) h = absurd cc

-- Clean: a clean complete flight that missed no wanting LAN
finding-clean : (n : Net) (count : ℕ) (f : Flight) → WantsBelow n count →
    finding n count f ≡ Some Clean → IsClean f × (f.waiting ≡ []) ×
    ((l : ℕ) → n.wants l ≡ true → In l (lans f.carried))
finding-clean n count f small h = by n count f small (first_double [] f.carried) refl h
  where
    ended : (n : Net) (count : ℕ) (cs : List Copy) (ws : List Waiting) → WantsBelow n count →
        end_finding n count cs ws ≡ Some Clean → (ws ≡ []) ×
        ((l : ℕ) → n.wants l ≡ true → In l (lans cs))
    ended n count cs [] small h = (
      refl,
      λ l w. missed-none n cs (below count)
          (missed_finding-clean (missed n cs (below count)) cc) l (in-below l count (small l w)) w,
    )
    ended n count cs (w ∷ ws) small h = absurd cc

    strayed : (n : Net) (count : ℕ) (cs : List Copy) (ws : List Waiting) (is : List Interface) →
        WantsBelow n count → stray_finding n count cs ws is ≡ Some Clean →
        (is ≡ []) × (ws ≡ []) × ((l : ℕ) → n.wants l ≡ true → In l (lans cs))
    strayed n count cs ws [] small h = let e = ended n count cs ws small h in (refl, e.0, e.1)
    strayed n count cs ws (i ∷ is) small h = absurd cc

    two : (b : Bool) (l : ℕ) → ◌≡◌ {A = Option Finding} (Some (cond b (Loop l) (Duplicate l)))
        (Some Clean) → ⊥
    two true l h = absurd cc
    two false l h = absurd cc

    by : (n : Net) (count : ℕ) (f : Flight) → WantsBelow n count → (o : Option Copy) →
        first_double [] f.carried ≡ o → double_finding n count f o ≡ Some Clean →
        IsClean f × (f.waiting ≡ []) × ((l : ℕ) → n.wants l ≡ true → In l (lans f.carried))
    by n count f small None q h = let s = strayed n count f.carried f.waiting f.strays small
        h in (record { once = (first_double-none [] f.carried q).0; none_stray = s.0 }, s.1, s.2)
    by n count f small (Some c) q h = absurd (two (walk_visits n f.carried c.lan (length f.carried)
        c.sender) c.lan h)

-- Clean: a clean complete flight
is_clean-from_clean_finding : (n : Net) (count : ℕ) (f : Flight) → finding n count f ≡ Some Clean →
    IsClean f × (f.waiting ≡ [])
is_clean-from_clean_finding n count f h = by n count f (first_double [] f.carried) refl h
  where
    ended : (n : Net) (count : ℕ) (cs : List Copy) (ws : List Waiting) →
        end_finding n count cs ws ≡ Some Clean → ws ≡ []
    ended n count cs [] h = refl
    ended n count cs (w ∷ ws) h = absurd cc

    strayed : (n : Net) (count : ℕ) (cs : List Copy) (ws : List Waiting) (is : List Interface) →
        stray_finding n count cs ws is ≡ Some Clean → (is ≡ []) × (ws ≡ [])
    strayed n count cs ws [] h = (refl, ended n count cs ws h)
    strayed n count cs ws (i ∷ is) h = absurd cc

    two : (b : Bool) (l : ℕ) → ◌≡◌ {A = Option Finding} (Some (cond b (Loop l) (Duplicate l)))
        (Some Clean) → ⊥
    two true l h = absurd cc
    two false l h = absurd cc

    by : (n : Net) (count : ℕ) (f : Flight) → (o : Option Copy) → first_double [] f.carried ≡ o →
        double_finding n count f o ≡ Some Clean → IsClean f × (f.waiting ≡ [])
    by n count f None q h = let s = strayed n count f.carried f.waiting f.strays
        h in (record { once = (first_double-none [] f.carried q).0; none_stray = s.0 }, s.1)
    by n count f (Some c) q h = absurd (two (walk_visits n f.carried c.lan (length f.carried) c.sender)
        c.lan h)

-- ---- a travel is a run

-- a picker chooses a copy that waits
pub choice-below_waiting : (waiting : ℕ) (numbers : List ℕ) (last : Bool) → 0 < waiting →
    choice waiting numbers last < waiting
choice-below_waiting w [] true h = omega arith
choice-below_waiting w [] false h = h
choice-below_waiting w (x ∷ xs) last h = omega arith

-- so a travel's picks are in range
pub in_range-travel : (n : Net) (count : ℕ) (numbers : List ℕ) (last : Bool) (is : List ℕ) (f : Flight)
    (x : Finding) → IsTravel n count numbers last is f x → InRange n (handles is) f
in_range-travel n count numbers last [] f x h = tt
in_range-travel n count numbers last (i ∷ is) f x h = (
  subst (λ k. k < length f.waiting) (sym h.1) (choice-below_waiting (length f.waiting) numbers last
      (finding-none n count f h.0).1),
  in_range-travel n count (numbers_left numbers) last is (step n i f) x h.2,
)

-- its run ends with its finding
pub finding-at_travel_end : (n : Net) (count : ℕ) (numbers : List ℕ) (last : Bool) (is : List ℕ)
    (f : Flight) (x : Finding) → IsTravel n count numbers last is f x →
    finding n count (run n (handles is) f) ≡ Some x
finding-at_travel_end n count numbers last [] f x h = h
finding-at_travel_end n count numbers last (i ∷ is) f x h =
    finding-at_travel_end n count (numbers_left numbers) last is
    (step n i f) x h.2

-- and loses no copy
pub is_lossless-handles : (is : List ℕ) → IsLossless (handles is)
is_lossless-handles [] = tt
is_lossless-handles (i ∷ is) = is_lossless-handles is

-- a travel with a fault is of no right flow
pub not_right-from_fault_finding : (n : Net) (count : ℕ) (t : ℕ) (numbers : List ℕ) (last : Bool)
    (is : List ℕ)
    (x : Finding) → IsNet n → WantsBelow n count → n.ttl ≤ t → t ≤ 255 →
    IsTravel n count numbers last is (start n t) x → x ≢ Clean → IsRight n → ⊥
not_right-from_fault_finding n count t numbers last is x net small low high travel other right =
    let ps = handles is in
    let f = run n ps (start n t) in
    let r = right t ps low high (in_range-travel n count numbers last is (start n t) x travel) in
    let e = end_finding-not_clean n count f.carried f.waiting x
    (sym (finding-of_clean_flight n count f r.clean) ∙
    finding-at_travel_end n count numbers last is (start n t) x travel) other in
    e.1.2 (r.served (is_lossless-handles is) e.0 e.1.0 e.1.1)

-- a travel that goes on has no more events than there are placed vifs
length_bounded-travel_step : (n : Net) (count k : ℕ) (numbers : List ℕ) (last : Bool) (is : List ℕ)
    (f : Flight)
    (x : Finding) → HandledCountIs n k f → k ≤ length (placed_interfaces n) →
    IsTravel n count numbers last is f x → k + length is ≤ length (placed_interfaces n)
length_bounded-travel_step n count k numbers last [] f x c le h = omega arith
length_bounded-travel_step n count k numbers last (i ∷ is) f x c le h =
    let some = finding-none n count f h.0 in
    let lt : i < length f.waiting = subst (λ k. k < length f.waiting) (sym h.1)
    (choice-below_waiting (length f.waiting) numbers last some.1) in
    let b = hearer_count-at_most_placed n f some.0.once in
    let ih = length_bounded-travel_step n count (suc k) (numbers_left numbers) last is (step n i f) x
    (handled_count-step n k i f lt c) (omega (arith, c, b, some.1)) h.2 in
    omega (arith, ih)

-- an unfinished travel: its next event is one of those, too
length_bounded-travel_so_far_step : (n : Net) (count k : ℕ) (numbers : List ℕ) (last : Bool) (is : List ℕ)
    (f : Flight) → HandledCountIs n k f → k ≤ length (placed_interfaces n) →
    IsTravelUnfinished n count numbers last is f → k + length is ≤ length (placed_interfaces n)
length_bounded-travel_so_far_step n count k numbers last [] f c le h = omega arith
length_bounded-travel_so_far_step n count k numbers last (i ∷ is) f c le h =
    let some = finding-none n count f h.0 in
    let lt : i < length f.waiting = subst (λ k. k < length f.waiting) (sym h.1)
    (choice-below_waiting (length f.waiting) numbers last some.1) in
    let b = hearer_count-at_most_placed n f some.0.once in
    let ih = length_bounded-travel_so_far_step n count (suc k) (numbers_left numbers) last is (step n i f)
    (handled_count-step n k i f lt c) (omega (arith, c, b, some.1)) h.2 in
    omega (arith, ih)

-- so it is from the start
pub length_bounded-travel_so_far : (n : Net) (count t : ℕ) (numbers : List ℕ) (last : Bool) (is : List ℕ) →
    IsTravelUnfinished n count numbers last is (start n t) → length is ≤ length (placed_interfaces n)
length_bounded-travel_so_far n count t numbers last is path = let h =
    length_bounded-travel_so_far_step n count 0 numbers last is
    (start n t) (handled_count-start n t) (omega arith) path in omega (arith, h)

-- and for a travel with a finding
pub length_bounded-travel : (n : Net) (count : ℕ) (t : ℕ) (numbers : List ℕ) (last : Bool) (is : List ℕ)
    (x : Finding) → IsNet n → IsTravel n count numbers last is (start n t) x →
    length is ≤ length (placed_interfaces n)
length_bounded-travel n count t numbers last is x net travel = let h =
    length_bounded-travel_step n count 0 numbers last is
    (start n t) x (handled_count-start n t) (omega arith) travel in omega (arith, h)

-- clean travels at 255 and at the flow's TTL make an accepted list
pub is_accepted-from_clean_travels : (n : Net) (count : ℕ) (numbers : List ℕ) (last : Bool) (is : List ℕ)
    (numbers' : List ℕ) (last' : Bool) (js : List ℕ) → IsNet n → WantsBelow n count → 1 ≤ n.ttl →
    n.ttl ≤ 255 → IsTravel n count numbers last is (start n 255) Clean →
    IsTravel n count numbers' last' js (start n n.ttl) Clean →
    IsAccepted n (entries_of n (run n (handles is) (start n 255)).carried)
is_accepted-from_clean_travels n count numbers last is numbers' last' js net small low high one two =
    let f = run n (handles is) (start n 255) in
    let g = run n (handles js) (start n n.ttl) in
    let a = finding-clean n count f small (finding-at_travel_end n count numbers last is (start n 255)
    Clean one) in
    let b = finding-clean n count g small (finding-at_travel_end n count numbers' last' js (start n n.ttl)
    Clean two) in
    is_accepted-from_two_runs n (handles is) (handles js) net low high
    (in_range-travel n count numbers last is (start n 255) Clean one) (is_lossless-handles is) a.1 a.0
    (in_range-travel n count numbers' last' js (start n n.ttl) Clean two) (is_lossless-handles js) b.1
    b.2

-- a clean travel at 255 makes a tree
pub is_tree-from_clean_travel : (n : Net) (count : ℕ) (numbers : List ℕ) (last : Bool) (is : List ℕ) →
    IsNet n →
    IsTravel n count numbers last is (start n 255) Clean →
    IsTree n (entries_of n (run n (handles is) (start n 255)).carried)
is_tree-from_clean_travel n count numbers last is net travel =
    let f = run n (handles is) (start n 255) in
    let a = is_clean-from_clean_finding n count f
    (finding-at_travel_end n count numbers last is (start n 255) Clean
    travel) in
    is_tree-from_clean_run n (handles is) net
    (in_range-travel n count numbers last is (start n 255) Clean travel)
    (is_lossless-handles is) a.1 a.0

-- what is nothing else is Clean
is-clean : (x : Finding) → (x ≢ Clean → ⊥) → x ≡ Clean
is-clean Clean h = refl
is-clean (Duplicate l) h = absurd (h (λ e. cc))
is-clean (Loop l) h = absurd (h (λ e. cc))
is-clean (Stray r v) h = absurd (h (λ e. cc))
is-clean (Missed l) h = absurd (h (λ e. cc))

-- under a tree the needs decide the finding at the flow's TTL
pub is_clean-iff_served : (n : Net) (count : ℕ) (es : List Entry) (numbers : List ℕ) (last : Bool)
    (is : List ℕ) (x : Finding) → IsNet n → WantsBelow n count → 1 ≤ n.ttl → n.ttl ≤ 255 →
    IsTree n es → IsTravel n count numbers last is (start n n.ttl) x → (x ≡ Clean) ↔ IsServed n es
is_clean-iff_served n count es numbers last is x net small low high tree travel =
    let ps = handles is in
    let f = run n ps (start n n.ttl) in
    let range = in_range-travel n count numbers last is (start n n.ttl) x travel in
    let whole = is_lossless-handles is in
    let found = finding-at_travel_end n count numbers last is (start n n.ttl) x travel in
    let safe = safe-lossless n es n.ttl ps net tree low high range whole in (
      (λ e l w. (let a = finding-clean n count f small (found ∙ ap Some e)
          in (is_delivered-from_safe n es n.ttl f tree safe a.1 l).0 (a.2 l w))),
      (λ served. is-clean x (λ other.
          let e = end_finding-not_clean n count f.carried f.waiting x
          (sym (finding-of_clean_flight n count f safe.inv.clean) ∙ found) other in
          e.1.2 ((is_delivered-from_safe n es n.ttl f tree safe e.0 e.1.0).1 (served e.1.0 e.1.1)))),
    )
