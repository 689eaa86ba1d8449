-- How many copies and how many steps there are.
use Rattle.std.proofs.Common.{◌≡◌, ℕ, zero, suc, ◌+◌, ◌-◌, ◌<◌, ◌≤◌, ◌⊎◌, inl, inr, Bool, true}
use Rattle.std.proofs.Common.{false, cond, not, ◌==◌, nat_lt, List, [], ◌∷◌, ◌++◌, map, filter}
use Rattle.std.proofs.Common.{length, slice_get, remove, flat_map, Option, Some, None, refl, ap}
use Rattle.std.proofs.Common.{sym, ◌∙◌, subst, arith, length-append}
use Rattle.mc_theory.specs.Lists.{In, Distinct}
use Rattle.mc_theory.specs.Nets.{Net, Row, Interface, interfaces, placed_interfaces}
use Rattle.mc_theory.specs.Nets.Row.{Exact, Open, NoRow}
use Rattle.mc_theory.specs.Flights.{Copy, Waiting, Flight, is_sender, hearers, waits_at, put, leave}
use Rattle.mc_theory.specs.Flights.{send, sends, handle_by_row, handle, without_waiting, step, source_copy}
use Rattle.mc_theory.specs.Flights.{start, Pick, picked_index, apply_pick, run, InRange}
use Rattle.mc_theory.specs.Flights.Pick.{Handles, Loses}
use Rattle.mc_theory.specs.Certificates.{Entry, lans, interface_count_of_named_lans}
use Rattle.mc_theory.proofs.ListLemmas.{in-map, in-map_cases, in-flat_map_cases, distinct-flat_map}
use Rattle.mc_theory.proofs.PlacedInterfaces.{placed-member_of_interfaces, distinct-interfaces}
use Rattle.mc_theory.proofs.PlacedInterfaces.{in_placed_interfaces-of_lan}
use Rattle.mc_theory.proofs.SafeFlights.{CopiesFitEntries}

-- ---- of distinct numbers in a list, the sum is no more than that of the list

abbrev pub total : {A : Type 0} → (A → ℕ) → List A → ℕ
total g [] = 0
total g (x ∷ xs) = g x + total g xs

-- the list without one x
total-split_at_member : {A : Type 0} (g : A → ℕ) (x : A) (ys : List A) → In x ys →
    (zs : List A) × (total g ys ≡ g x + total g zs) × ((z : A) → In z ys → (x ≡ z) ⊎ In z zs)
total-split_at_member g x [] h = absurd h
total-split_at_member g x (y ∷ ys) (inl e) = (
  ys,
  ap (λ a. g a + total g ys) e,
  λ z h. elim h [ inl q ↦ inl (sym e ∙ q) | inr k ↦ inr k ],
)
total-split_at_member g x (y ∷ ys) (inr h) =
    let r = total-split_at_member g x ys h in (
      y ∷ r.0,
      omega (arith, r.1),
      λ z k. elim k [
        | inl q ↦ inr (inl q)
        | inr m ↦ elim (r.2 z m)
            [ inl q ↦ inl q | inr j ↦ inr (inr j) ]
      ],
    )

pub total-at_most_of_superset : {A : Type 0} (g : A → ℕ) (xs ys : List A) → Distinct xs →
    ((x : A) → In x xs → In x ys) → total g xs ≤ total g ys
total-at_most_of_superset g [] ys d h = omega arith
total-at_most_of_superset g (x ∷ xs) ys d h =
    let r = total-split_at_member g x ys (h x (inl refl)) in
    let rest = total-at_most_of_superset g xs r.0 d.1 (λ z k. elim (r.2 z (h z (inr k)))
    [ inl q ↦ absurd (d.0 (subst (λ a. In a xs) (sym q) k)) | inr j ↦ j ]) in
    omega (arith, r.1, rest)

pub total-of_ones : {A : Type 0} (xs : List A) → total (λ _. 1) xs ≡ length xs
total-of_ones [] = refl
total-of_ones (x ∷ xs) = omega (arith, total-of_ones xs)

length-map' : {A B : Type 0} (f : A → B) (xs : List A) → length (map f xs) ≡ length xs
length-map' f [] = refl
length-map' f (x ∷ xs) = ap suc (length-map' f xs)

total-interface_counts : (n : Net) (es : List Entry) → total (λ l. length (interfaces n l))
    (map (λ (e : Entry). e.lan) es) ≡ interface_count_of_named_lans n es
total-interface_counts n [] = refl
total-interface_counts n (e ∷ es) = omega (
  arith,
  total-interface_counts n es,
  length-append (interfaces n e.lan) (flat_map (λ (e : Entry). interfaces n e.lan) es),
)

-- ---- what waits and what was handled are the hearers of the copies

abbrev pub hearer_count : Net → List Copy → ℕ
hearer_count n [] = 0
hearer_count n (c ∷ cs) = length (hearers n c) + hearer_count n cs

hearer_count-push : (n : Net) (cs : List Copy) (c : Copy) →
    hearer_count n (cs ++ c ∷ []) ≡ hearer_count n cs + length (hearers n c)
hearer_count-push n [] c = omega arith
hearer_count-push n (d ∷ cs) c = omega (arith, hearer_count-push n cs c)

-- k copies were handled
abbrev pub HandledCountIs : Net → ℕ → Flight → Type 0
HandledCountIs n k f = hearer_count n f.carried ≡ k + length f.waiting

handled_count-put : (n : Net) (k : ℕ) (c : Copy) (f : Flight) → HandledCountIs n k f →
    HandledCountIs n k (put n c f)
handled_count-put n k c f h = omega (
  arith,
  hearer_count-push n f.carried c,
  length-append f.waiting (map (waits_at c.ttl) (hearers n c)),
  length-map' (waits_at c.ttl) (hearers n c),
)

handled_count-leave : (n : Net) (k s : ℕ) (i : Interface) (o : Option ℕ) (f : Flight) → HandledCountIs n k f →
    HandledCountIs n k (leave n s i o f)
handled_count-leave n k s i None f h = h
handled_count-leave n k s i (Some l) f h =
    handled_count-put n k (record { lan = l; ttl = s; sender = Some i })
    f h

handled_count-cond : (n : Net) (k : ℕ) (b : Bool) (f g : Flight) → HandledCountIs n k f →
    HandledCountIs n k g →
    HandledCountIs n k (cond b f g)
handled_count-cond n k true f g h z = h
handled_count-cond n k false f g h z = z

handled_count-send : (n : Net) (k r s : ℕ) (p : ℕ × ℕ) (f : Flight) → HandledCountIs n k f →
    HandledCountIs n k (send n r s p f)
handled_count-send n k r s p f h = handled_count-cond n k (nat_lt p.1 s)
    (leave n (s - 1) (r, p.0) (n.placed r p.0) f) f (handled_count-leave n k (s - 1) (r, p.0)
    (n.placed r p.0) f h) h

handled_count-sends : (n : Net) (k r s : ℕ) (ps : List (ℕ × ℕ)) (f : Flight) → HandledCountIs n k f →
    HandledCountIs n k (sends n r s ps f)
handled_count-sends n k r s [] f h = h
handled_count-sends n k r s (p ∷ ps) f h = handled_count-sends n k r s ps (send n r s p f)
    (handled_count-send n k r s p f h)

handled_count-row : (n : Net) (k : ℕ) (w : Waiting) (row : Row) (f : Flight) → HandledCountIs n k f →
    HandledCountIs n k (handle_by_row n w row f)
handled_count-row n k w (Exact incoming pairs) f h = handled_count-cond n k (incoming == w.vif)
    (sends n w.router w.ttl pairs f) f (handled_count-sends n k w.router w.ttl pairs f h) h
handled_count-row n k w Open f h = h
handled_count-row n k w NoRow f h = h

handled_count-handle : (n : Net) (k : ℕ) (o : Option Waiting) (f : Flight) → HandledCountIs n k f →
    HandledCountIs n k (handle n o f)
handled_count-handle n k None f h = h
handled_count-handle n k (Some w) f h = handled_count-row n k w (n.row w.router) f h

length-remove : {A : Type 0} (xs : List A) (i : ℕ) → i < length xs →
    length xs ≡ suc (length (remove xs i))
length-remove [] i lt = absurd (omega arith)
length-remove (x ∷ xs) zero lt = refl
length-remove (x ∷ xs) (suc i) lt = ap suc (length-remove xs i (omega arith))

pub handled_count-step : (n : Net) (k i : ℕ) (f : Flight) → i < length f.waiting → HandledCountIs n k f →
    HandledCountIs n (suc k) (step n i f)
handled_count-step n k i f lt h = handled_count-handle n (suc k) (slice_get f.waiting i) (without_waiting i f)
    (omega (arith, length-remove f.waiting i lt))

pub handled_count-pick : (n : Net) (k : ℕ) (p : Pick) (f : Flight) → picked_index p < length f.waiting →
    HandledCountIs n k f → HandledCountIs n (suc k) (apply_pick n p f)
handled_count-pick n k (Handles i) f lt h = handled_count-step n k i f lt h
handled_count-pick n k (Loses i) f lt h = omega (arith, length-remove f.waiting i lt)

pub handled_count-run : (n : Net) (k : ℕ) (ps : List Pick) (f : Flight) → InRange n ps f →
    HandledCountIs n k f →
    HandledCountIs n (k + length ps) (run n ps f)
handled_count-run n k [] f range h = omega arith
handled_count-run n k (p ∷ ps) f range h = omega (
  arith,
  handled_count-run n (suc k) ps (apply_pick n p f) range.1
      (handled_count-pick n k p f range.0 h),
)

pub handled_count-start : (n : Net) (t : ℕ) → HandledCountIs n 0 (start n t)
handled_count-start n t = omega (arith, length-map' (waits_at t) (hearers n (source_copy n t)))

-- ---- the bounds

length_filter-at_most : {A : Type 0} (p : A → Bool) (xs : List A) → length (filter p xs) ≤ length xs
length_filter-at_most p [] = omega arith
length_filter-at_most p (x ∷ xs) = filter-le_step p x xs (p x) (length_filter-at_most p xs)
  where
    filter-le_step : {A : Type 0} (p : A → Bool) (x : A) (xs : List A) (b : Bool) →
        length (filter p xs) ≤ length xs → length (cond b (x ∷ filter p xs) (filter p xs)) ≤ suc
        (length xs)
    filter-le_step p x xs true h = omega arith
    filter-le_step p x xs false h = omega arith

hearer_count-at_most_interfaces : (n : Net) (cs : List Copy) →
    hearer_count n cs ≤ total (λ l. length (interfaces n l))
    (lans cs)
hearer_count-at_most_interfaces n [] = omega arith
hearer_count-at_most_interfaces n (c ∷ cs) = omega (
  arith,
  hearer_count-at_most_interfaces n cs,
  length_filter-at_most (λ (i : Interface). not (is_sender c.sender i)) (interfaces n c.lan),
)

-- the LANs of the copies are named
lans-of_copies_are_named : (es : List Entry) (t : ℕ) (f : Flight) → CopiesFitEntries es t f → (l : ℕ) →
    In l (lans f.carried) → In l (map (λ (e : Entry). e.lan) es)
lans-of_copies_are_named es t f named l h =
    let c = in-map_cases (λ (c : Copy). c.lan) l f.carried h in
    let e = named c.0 c.1 in
    subst (λ x. In x (map (λ (e : Entry). e.lan) es)) (e.2.lan ∙ c.2)
    (in-map (λ (e : Entry). e.lan) e.0 es e.1)

pub copies-at_most_entries : (es : List Entry) (t : ℕ) (f : Flight) → Distinct (lans f.carried) →
    CopiesFitEntries es t f → length f.carried ≤ length es
copies-at_most_entries es t f d named =
    let h = total-at_most_of_superset (λ _. 1) (lans f.carried) (map (λ (e : Entry). e.lan) es) d
    (lans-of_copies_are_named es t f named) in
    omega (
      arith,
      h,
      total-of_ones (lans f.carried),
      total-of_ones (map (λ (e : Entry). e.lan) es),
      length-map' (λ (c : Copy). c.lan) f.carried,
      length-map' (λ (e : Entry). e.lan) es,
    )

pub hearer_count-at_most_named : (n : Net) (es : List Entry) (t : ℕ) (f : Flight) →
    Distinct (lans f.carried) →
    CopiesFitEntries es t f → hearer_count n f.carried ≤ interface_count_of_named_lans n es
hearer_count-at_most_named n es t f d named =
    let h = total-at_most_of_superset (λ l. length (interfaces n l)) (lans f.carried)
    (map (λ (e : Entry). e.lan) es) d (lans-of_copies_are_named es t f named) in
    omega (arith, h, hearer_count-at_most_interfaces n f.carried, total-interface_counts n es)

-- ---- without a certificate: distinct LANs have no interface in common

total-interface_lengths : (n : Net) (ls : List ℕ) → total (λ l. length (interfaces n l)) ls ≡ length
    (flat_map (interfaces n) ls)
total-interface_lengths n [] = refl
total-interface_lengths n (l ∷ ls) = omega (
  arith,
  total-interface_lengths n ls,
  length-append (interfaces n l) (flat_map (interfaces n) ls),
)

pub total-at_most_placed : (n : Net) (ls : List ℕ) → Distinct ls →
    total (λ l. length (interfaces n l)) ls ≤ length (placed_interfaces n)
total-at_most_placed n ls d =
    let apart : Distinct (flat_map (interfaces n) ls) =
    distinct-flat_map (interfaces n) ls d (distinct-interfaces n)
    (λ x y b h k. same-lan n x y b h k) in
    let h = total-at_most_of_superset (λ _. 1) (flat_map (interfaces n) ls) (placed_interfaces n) apart
    (λ i k. (let r = in-flat_map_cases (interfaces n) i ls k in in_placed_interfaces-of_lan n r.0 i r.2))
    in
    omega (
      arith,
      h,
      total-of_ones (flat_map (interfaces n) ls),
      total-of_ones (placed_interfaces n),
      total-interface_lengths n ls,
    )
  where
    same-lan : (n : Net) (x y : ℕ) (b : Interface) → In b (interfaces n x) → In b (interfaces n y) →
        x ≡ y
    same-lan n x y b h k = let e : Some x ≡ Some y = sym (placed-member_of_interfaces n b x h) ∙
        placed-member_of_interfaces n b y k in cc

pub hearer_count-at_most_placed : (n : Net) (f : Flight) → Distinct (lans f.carried) →
    hearer_count n f.carried ≤ length (placed_interfaces n)
hearer_count-at_most_placed n f d =
    omega (arith, hearer_count-at_most_interfaces n f.carried, total-at_most_placed n (lans f.carried) d)

-- a clean run has no more steps than there are placed vifs
pub steps-at_most_placed : (n : Net) (k : ℕ) (f : Flight) → HandledCountIs n k f → Distinct (lans f.carried) →
    k ≤ length (placed_interfaces n)
steps-at_most_placed n k f count d = omega (arith, count, hearer_count-at_most_placed n f d)
