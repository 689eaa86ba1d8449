-- Pairs that are left out before they are put in order, or after it.
use Rattle.std.proofs.Common.{◌≡◌, ℕ, Bool, true, false, cond, List, [], ◌∷◌, filter, inl, inr, refl, sym}
use Rattle.std.proofs.Common.{ap, ◌∙◌}
use Rattle.std.specs.List.Sorted.{IsStrictlySortedBy}
use Rattle.std.specs.declared.cmp.Ordering.TheVariants.{Less}
use Rattle.std.proofs.lemmas.Bool.{false≢true}
use Rattle.std.proofs.lemmas.List.Kept.{IsStrictlySortedBy-filter}
use Rattle.mc_tables.specs.CacheTable.{key_cmp}
use Rattle.mc_tables.specs.Summary.{in_order}
use Rattle.mc_theory.specs.Lists.{In}
use Rattle.mc_theory.proofs.ListLemmas.{in-filter, in-filter_cases}
use Rattle.mc_asked.proofs.MergeLemmas.{AreAbove, are_above-trans, is_strictly_sorted_by-in_order}
use Rattle.mc_asked.proofs.PartLemmas.{key_cmp-from_are_above, key_cmp-not_less_itself}
use Rattle.mc_asked.proofs.PartLemmas.{in-in_order, in-from_in_order}

-- no two pairs are each below the other
not_below_each_other : (x y : ℕ × ℕ) → key_cmp x y ≡ Less → key_cmp y x ≡ Less → ⊥
not_below_each_other x y xy yx =
    key_cmp-not_less_itself x x refl (are_above-trans x y (x ∷ []) xy (yx, tt)).0

-- If each of two ascending lists has the other's first pair, the first pairs are equal: neither is above
-- itself.
same_first : (x y : ℕ × ℕ) (xs ys : List (ℕ × ℕ)) → AreAbove x xs → AreAbove y ys → In x (y ∷ ys)
    → In y (x ∷ xs) → x ≡ y
same_first x y xs ys above_x above_y (inl e) k = sym e
same_first x y xs ys above_x above_y (inr h) (inl e) = e
same_first x y xs ys above_x above_y (inr h) (inr k) =
    absurd (not_below_each_other x y (key_cmp-from_are_above x y xs above_x k)
    (key_cmp-from_are_above y x ys above_y h))

-- A pair behind the first is none that equals it, so that the other list has it behind its own first pair.
in-later : (x y q : ℕ × ℕ) (xs ys : List (ℕ × ℕ)) → x ≡ y → AreAbove x xs → In q xs → In q (y ∷ ys) → In q ys
in-later x y q xs ys e above h (inl k) =
    absurd (key_cmp-not_less_itself x q (e ∙ k) (key_cmp-from_are_above x q xs above h))
in-later x y q xs ys e above h (inr k) = k

-- two ascending lists with the same pairs are the same
ascending-same_pairs : (xs ys : List (ℕ × ℕ)) → IsStrictlySortedBy key_cmp xs
    → IsStrictlySortedBy key_cmp ys → ((q : ℕ × ℕ) → In q xs → In q ys)
    → ((q : ℕ × ℕ) → In q ys → In q xs) → xs ≡ ys
unfolding IsStrictlySortedBy
ascending-same_pairs [] [] up_x up_y to from = refl
ascending-same_pairs [] (y ∷ ys) up_x up_y to from = absurd (from y (inl refl))
ascending-same_pairs (x ∷ xs) [] up_x up_y to from = absurd (to x (inl refl))
ascending-same_pairs (x ∷ xs) (y ∷ ys) up_x up_y to from =
    let first = same_first x y xs ys up_x.0 up_y.0 (to x (inl refl)) (from y (inl refl)) in
    let rest = ascending-same_pairs xs ys up_x.1 up_y.1
    (λ q h. in-later x y q xs ys first up_x.0 h (to q (inr h)))
    (λ q h. in-later y x q ys xs (sym first) up_y.0 h (from q (inr h))) in
    λ i. first i ∷ rest i

-- what is left out may be left out before
pub filter-in_order : (p : ℕ × ℕ → Bool) (xs : List (ℕ × ℕ)) → in_order (filter p xs) ≡ filter p (in_order xs)
filter-in_order p xs =
    ascending-same_pairs (in_order (filter p xs)) (filter p (in_order xs))
    (is_strictly_sorted_by-in_order (filter p xs))
    (IsStrictlySortedBy-filter key_cmp p (in_order xs) (is_strictly_sorted_by-in_order xs))
    (λ q h. let k = in-filter_cases p q xs (in-from_in_order q (filter p xs) h) in
    in-filter p q (in_order xs) (in-in_order q xs k.0) k.1)
    (λ q h. let k = in-filter_cases p q (in_order xs) h in
    in-in_order q (filter p xs) (in-filter p q xs (in-from_in_order q xs k.0) k.1))

-- One element more, by whether it passes each of the tests.
filter-swap_step : {X : Type 0} (p q : X → Bool) (x : X) (xs : List X) (a b : Bool) → p x ≡ a → q x ≡ b
    → filter p (filter q xs) ≡ filter q (filter p xs)
    → filter p (cond b (x ∷ filter q xs) (filter q xs)) ≡ filter q (cond a (x ∷ filter p xs) (filter p xs))
filter-swap_step p q x xs true true ep eq same = rw (ep, eq) (ap (λ (ys : List _). x ∷ ys) same)
filter-swap_step p q x xs true false ep eq same = rw eq same
filter-swap_step p q x xs false true ep eq same = rw ep same
filter-swap_step p q x xs false false ep eq same = same

-- Two filters may change places.
pub filter-swap : {X : Type 0} (p q : X → Bool) (xs : List X)
    → filter p (filter q xs) ≡ filter q (filter p xs)
filter-swap p q [] = refl
filter-swap p q (x ∷ xs) = filter-swap_step p q x xs (p x) (q x) refl refl (filter-swap p q xs)

-- One element more, by whether it passes each of the tests.
filter-implied_step : {X : Type 0} (p q : X → Bool) (x : X) (xs : List X) (a b : Bool) → p x ≡ a → q x ≡ b
    → (a ≡ true → b ≡ true) → filter p (filter q xs) ≡ filter p xs
    → filter p (cond b (x ∷ filter q xs) (filter q xs)) ≡ cond a (x ∷ filter p xs) (filter p xs)
filter-implied_step p q x xs true true ep eq implies same = rw ep (ap (λ (ys : List _). x ∷ ys) same)
filter-implied_step p q x xs true false ep eq implies same = absurd (false≢true (implies refl))
filter-implied_step p q x xs false true ep eq implies same = rw ep same
filter-implied_step p q x xs false false ep eq implies same = same

-- what passes one test passes the other, which needn't be made first
pub filter-implied : {X : Type 0} (p q : X → Bool) (xs : List X) → ((x : X) → p x ≡ true → q x ≡ true)
    → filter p (filter q xs) ≡ filter p xs
filter-implied p q [] implies = refl
filter-implied p q (x ∷ xs) implies =
    filter-implied_step p q x xs (p x) (q x) refl refl (implies x) (filter-implied p q xs implies)
