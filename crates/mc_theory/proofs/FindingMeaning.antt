-- A travel's finding is what its last flight shows.
use Rattle.std.proofs.Common.{◌≡◌, ℕ, zero, suc, ◌<◌, inl, inr, Bool, true, false}
use Rattle.std.proofs.Common.{cond, List, [], ◌∷◌, ◌++◌, length, Option, Some, None, is_some}
use Rattle.std.proofs.Common.{refl, ap, sym, ◌∙◌, subst, arith}
use Rattle.mc_theory.specs.Lists.{In, Distinct, below}
use Rattle.mc_theory.specs.Nets.{Net, Interface, WantsBelow}
use Rattle.mc_theory.specs.Flights.{Copy, Waiting, Flight, start, run}
use Rattle.mc_theory.specs.Certificates.{lans, IsClean}
use Rattle.mc_theory.specs.Findings.{Finding, first_copy_on, first_double, walk_visits, missed}
use Rattle.mc_theory.specs.Findings.{missed_finding}
use Rattle.mc_theory.specs.Findings.{end_finding, stray_finding, double_finding, IsTravel}
use Rattle.mc_theory.specs.Findings.{WalkEnds, AllWalksEnd, handles}
use Rattle.mc_theory.specs.Findings.Finding.{Duplicate, Loop}
use Rattle.mc_theory.specs.FindingMeaning.{FirstDoubleWalk, Shows}
use Rattle.mc_theory.proofs.ListLemmas.{in-append_right, in-below, distinct-append}
use Rattle.mc_theory.proofs.RunInvariant.{map-append'}
use Rattle.mc_theory.proofs.Travels.{in_lans-from_first_copy_on, first_copy_on-from_in_lans}
use Rattle.mc_theory.proofs.Travels.{first_double-none, missed-none, missed-some}
use Rattle.mc_theory.proofs.Travels.{finding-at_travel_end}
use Rattle.mc_theory.proofs.WalkBack.{walk_ends-travel}

-- ---- the lowest LAN that was missed

missed-append_some_step : (n : Net) (cs : List Copy) (x : ℕ) (xs ys : List ℕ) (l : ℕ) (w b : Bool) →
    cond w (cond b (missed n cs xs) (Some x)) (missed n cs xs) ≡ Some l →
    (missed n cs xs ≡ Some l → missed n cs (xs ++ ys) ≡ Some l) →
    cond w (cond b (missed n cs (xs ++ ys)) (Some x)) (missed n cs (xs ++ ys)) ≡ Some l
missed-append_some_step n cs x xs ys l true true h ih = ih h
missed-append_some_step n cs x xs ys l true false h ih = h
missed-append_some_step n cs x xs ys l false b h ih = ih h

-- one that was missed among the first is missed among more
missed-append_some : (n : Net) (cs : List Copy) (xs ys : List ℕ) (l : ℕ) → missed n cs xs ≡ Some l →
    missed n cs (xs ++ ys) ≡ Some l
missed-append_some n cs [] ys l h = absurd cc
missed-append_some n cs (x ∷ xs) ys l h = missed-append_some_step n cs x xs ys l (n.wants x)
    (is_some (first_copy_on cs x)) h (missed-append_some n cs xs ys l)

missed-append_none_step : (n : Net) (cs : List Copy) (x : ℕ) (xs ys : List ℕ) (w b : Bool) →
    cond w (cond b (missed n cs xs) (Some x)) (missed n cs xs) ≡ None →
    (missed n cs xs ≡ None → missed n cs (xs ++ ys) ≡ missed n cs ys) →
    cond w (cond b (missed n cs (xs ++ ys)) (Some x)) (missed n cs (xs ++ ys)) ≡ missed n cs ys
missed-append_none_step n cs x xs ys true true h ih = ih h
missed-append_none_step n cs x xs ys true false h ih = absurd cc
missed-append_none_step n cs x xs ys false b h ih = ih h

-- where none was missed among the first, it is one of the rest
missed-append_none : (n : Net) (cs : List Copy) (xs ys : List ℕ) → missed n cs xs ≡ None →
    missed n cs (xs ++ ys) ≡ missed n cs ys
missed-append_none n cs [] ys h = refl
missed-append_none n cs (x ∷ xs) ys h = missed-append_none_step n cs x xs ys (n.wants x)
    (is_some (first_copy_on cs x)) h (missed-append_none n cs xs ys)

missed-one : (m l : ℕ) (w b : Bool) → cond w (cond b None (Some m)) None ≡ Some l → m ≡ l
missed-one m l true true h = absurd cc
missed-one m l true false h = cc
missed-one m l false b h = absurd cc

missed-lowest : (n : Net) (cs : List Copy) (count l : ℕ) → missed n cs (below count) ≡ Some l →
    (k : ℕ) → k < l → n.wants k ≡ true → In k (lans cs)
unfolding below
missed-lowest n cs zero l h k lt w = absurd cc
missed-lowest n cs (suc m) l h k lt w = by n cs m l h k lt w (missed n cs (below m)) refl
    (λ q. missed-lowest n cs m l q k lt w)
  where
    by : (n : Net) (cs : List Copy) (m l : ℕ) → missed n cs (below m ++ m ∷ []) ≡ Some l → (k : ℕ) →
        k < l → n.wants k ≡ true → (o : Option ℕ) → missed n cs (below m) ≡ o →
        (missed n cs (below m) ≡ Some l → In k (lans cs)) → In k (lans cs)
    by n cs m l h k lt w (Some a) q ih =
        let same : Some a ≡ Some l = sym (missed-append_some n cs (below m) (m ∷ []) a q) ∙ h in
        ih (q ∙ same)
    by n cs m l h k lt w None q ih =
        let one = missed-one m l (n.wants m) (is_some (first_copy_on cs m))
        (sym (missed-append_none n cs (below m) (m ∷ []) q) ∙ h) in
        missed-none n cs (below m) q k (in-below k m (omega (arith, lt, one))) w

-- ---- the first double copy

-- what comes before the first double copy, after the earlier ones
abbrev FirstDoubleAfter : List Copy → List Copy → Copy → Type 0
FirstDoubleAfter earlier cs c = (a : List Copy) × (b : List Copy) × (cs ≡ a ++ c ∷ b) × In c.lan
    (lans (earlier ++ a)) × Distinct (lans (earlier ++ a))

append-append : (xs : List Copy) (y : Copy) (ys : List Copy) → (xs ++ y ∷ []) ++ ys ≡ xs ++ y ∷ ys
append-append [] y ys = refl
append-append (x ∷ xs) y ys = ap (λ zs. x ∷ zs) (append-append xs y ys)

append-nil_right : (xs : List Copy) → xs ≡ xs ++ []
append-nil_right [] = refl
append-nil_right (x ∷ xs) = ap (λ ys. x ∷ ys) (append-nil_right xs)

distinct_lans-push : (earlier : List Copy) (c : Copy) → Distinct (lans earlier) →
    (In c.lan (lans earlier) → ⊥) → Distinct (lans (earlier ++ c ∷ []))
distinct_lans-push earlier c once none = subst Distinct (sym (map-append' (λ (c : Copy). c.lan) earlier
    (c ∷ []))) (distinct-append (lans earlier) (c.lan ∷ []) once ((λ h. h), tt)
    (λ l h k. elim k [ inl e ↦ none (subst (λ x. In x (lans earlier)) (sym e) h) | inr z ↦ z ]))

first_double-some_step : (earlier : List Copy) (d : Copy) (cs : List Copy) (c : Copy) (test : Bool) →
    is_some (first_copy_on earlier d.lan) ≡ test → Distinct (lans earlier) →
    cond test (Some d) (first_double (earlier ++ d ∷ []) cs) ≡ Some c →
    (Distinct (lans (earlier ++ d ∷ [])) → first_double (earlier ++ d ∷ []) cs ≡ Some c →
    FirstDoubleAfter (earlier ++ d ∷ []) cs c) → FirstDoubleAfter earlier (d ∷ cs) c
first_double-some_step earlier d cs c true q once h ih =
    let same : d ≡ c = cc in (
      [],
      cs,
      ap (λ x. x ∷ cs) same,
      subst (λ xs. In c.lan (lans xs)) (append-nil_right earlier)
          (subst (λ (x : Copy). In x.lan (lans earlier)) same (in_lans-from_first_copy_on earlier d.lan q)),
      subst (λ xs. Distinct (lans xs)) (append-nil_right earlier) once,
    )
first_double-some_step earlier d cs c false q once h ih =
    let none : In d.lan (lans earlier) → ⊥ =
    λ k. (let y = first_copy_on-from_in_lans earlier d.lan k in absurd cc) in
    let r = ih (distinct_lans-push earlier d once none) h in (
      d ∷ r.0,
      r.1,
      ap (λ xs. d ∷ xs) r.2,
      subst (λ xs. In c.lan (lans xs))
          (append-append earlier d r.0) r.3,
      subst (λ xs. Distinct (lans xs))
          (append-append earlier d r.0) r.4,
    )

first_double-some : (earlier cs : List Copy) (c : Copy) → Distinct (lans earlier) →
    first_double earlier cs ≡ Some c → FirstDoubleAfter earlier cs c
first_double-some earlier [] c once h = absurd cc
first_double-some earlier (d ∷ cs) c once h = first_double-some_step earlier d cs c
    (is_some (first_copy_on earlier d.lan)) refl once h (first_double-some (earlier ++ d ∷ []) cs c)

-- ---- each finding

shows-missed : (n : Net) (count : ℕ) (f : Flight) (o : Option ℕ) → WantsBelow n count → IsClean f →
    f.waiting ≡ [] → missed n f.carried (below count) ≡ o → Shows n f (missed_finding o)
shows-missed n count f None small clean done q = (
  clean,
  done,
  λ l w. missed-none n f.carried (below count) q l (in-below l count (small l w)) w,
)
shows-missed n count f (Some l) small clean done q =
    let m = missed-some n f.carried (below count) l q in
    (clean, done, m.0, m.1, missed-lowest n f.carried count l q)

some_injective-finding : (x y : Finding) → Some x ≡ Some y → x ≡ y
some_injective-finding x y e = cc

shows-end : (n : Net) (count : ℕ) (f : Flight) (ws : List Waiting) (x : Finding) →
    WantsBelow n count → IsClean f → f.waiting ≡ ws → end_finding n count f.carried ws ≡ Some x →
    Shows n f x
shows-end n count f [] x small clean done h = subst (Shows n f)
    (some_injective-finding (missed_finding (missed n f.carried (below count))) x h)
    (shows-missed n count f (missed n f.carried (below count)) small clean done refl)
shows-end n count f (w ∷ ws) x small clean done h = absurd cc

shows-stray : (n : Net) (count : ℕ) (f : Flight) (is : List Interface) (x : Finding) →
    WantsBelow n count → Distinct (lans f.carried) → f.strays ≡ is →
    stray_finding n count f.carried f.waiting is ≡ Some x → Shows n f x
shows-stray n count f [] x small once q h = shows-end n count f f.waiting x small
    (record { once = once; none_stray = q }) refl h
shows-stray n count f (i ∷ is) x small once q h = subst (Shows n f)
    (some_injective-finding (Finding.Stray i.0 i.1) x h) (once, (is, q))

shows-double : (n : Net) (f : Flight) (c : Copy) (x : Finding) (test : Bool) →
    AllWalksEnd n f.carried → walk_visits n f.carried c.lan (length f.carried) c.sender ≡ test →
    first_double [] f.carried ≡ Some c → Some (cond test (Loop c.lan) (Duplicate c.lan)) ≡ Some x →
    Shows n f x
shows-double n f c x test ends m q h =
    let d = first_double-some [] f.carried c tt q in
    let w = ends c (subst (λ xs. In c xs) (sym d.2) (in-append_right c d.0 (c ∷ d.1) (inl refl))) in
    let walk : FirstDoubleWalk n f c.lan = record {
      copy = c;
      first =
          record { earlier = d.0; later = d.1; split = d.2; once = d.4; again = d.3 };
      lan =
          refl;
      walk = w.walk;
      back = w.back;
    } in
    by n f c x test m w walk refl h
  where
    by : (n : Net) (f : Flight) (c : Copy) (x : Finding) (test : Bool) →
        walk_visits n f.carried c.lan (length f.carried) c.sender ≡ test → (w : WalkEnds n f.carried c) →
        (d : FirstDoubleWalk n f c.lan) → d.walk ≡ w.walk → Some
        (cond test (Loop c.lan) (Duplicate c.lan)) ≡ Some x → Shows n f x
    by n f c x true m w d same h = subst (Shows n f) (some_injective-finding (Loop c.lan) x h)
        (d, subst (λ xs. In c.lan (lans xs)) (sym same) ((w.visited c.lan).0 m))
    by n f c x false m w d same h = subst (Shows n f) (some_injective-finding (Duplicate c.lan) x h)
        (d, λ z. (let k = (w.visited c.lan).1 (subst (λ xs. In c.lan (lans xs)) same z) in absurd cc))

shows-by_first_double : (n : Net) (count : ℕ) (f : Flight) (x : Finding) (o : Option Copy) →
    WantsBelow n count →
    AllWalksEnd n f.carried → first_double [] f.carried ≡ o → double_finding n count f o ≡ Some x →
    Shows n f x
shows-by_first_double n count f x None small ends q h = shows-stray n count f f.strays x small
    (first_double-none [] f.carried q).0 refl h
shows-by_first_double n count f x (Some c) small ends q h = shows-double n f c x
    (walk_visits n f.carried c.lan (length f.carried) c.sender) ends refl q h

pub shows-travel_finding : (n : Net) (count t : ℕ) (numbers : List ℕ) (last : Bool) (is : List ℕ)
    (x : Finding) →
    WantsBelow n count → IsTravel n count numbers last is (start n t) x →
    Shows n (run n (handles is) (start n t)) x
shows-travel_finding n count t numbers last is x small travel =
    let f = run n (handles is) (start n t) in
    shows-by_first_double n count f x (first_double [] f.carried) small
    (walk_ends-travel n count t numbers last is x travel) refl
    (finding-at_travel_end n count numbers last is (start n t) x travel)
