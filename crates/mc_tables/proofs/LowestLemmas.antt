-- The lowest of many pairs, ascending and each once.
use Rattle.std.proofs.Common.{◌≡◌, ℕ, zero, suc, ◌+◌, ◌<◌, ◌≤◌, Bool, true, false, cond, T, List, [], ◌∷◌}
use Rattle.std.proofs.Common.{◌++◌, eqb, length, take, get_or, map, Option, None, Some, refl, sym, ap, ap₂}
use Rattle.std.proofs.Common.{subst, ◌∙◌, arith}
use Rattle.std.specs.Prelude.{◌&&◌, ◌≢◌}
use Rattle.std.specs.FinMap as fin
use Rattle.std.specs.FinMap.Entries.{below_all, by_order, is_sorted, same_entries}
use Rattle.std.specs.List.{AllByRecursion, Contains, dedup, insert}
use Rattle.std.specs.List.Sorted.{IsStrictlySortedBy, IsPermutation, IsSorted, IsNonDecreasingBy}
use Rattle.std.specs.List.Sorted.{IsPartitionPoint}
use Rattle.std.specs.Cmp.{IsEquivalence, tied_itself, unsigned_ties}
use Rattle.std.specs.Ordering.{eq_by_cmp, is_eq, is_le, is_lt, is_some_and, nat_cmp, ordering_index}
use Rattle.std.specs.Ordering.{ordering_reverse, ordering_then, partial_le, partial_ordering_then}
use Rattle.std.specs.declared.cmp.Ordering.{Ordering}
use Rattle.std.specs.declared.cmp.Ordering.TheVariants.{Less, Equal, Greater}
use Rattle.std.proofs.lemmas.Bool.{true≢false}
use Rattle.std.proofs.lemmas.List.{nil_from_length, take-take}
use Rattle.std.proofs.lemmas.List.Kept.{Contains-dedup, Contains-from_dedup, IsStrictlySortedBy-dedup}
use Rattle.std.proofs.lemmas.List.Sorted.{Contains-permutation, IsPermutation-sym, searchable_from_sorted}
use Rattle.std.proofs.lemmas.Map.Keys.{Less-from_sorted}
use Rattle.mc_tables.specs.CacheTable.{key_cmp, same_key}
use Rattle.mc_tables.specs.Summary.{in_order, shown_pairs}
use Rattle.mc_tables.specs.SummarySoFar.{put_at, put_pair}
use Rattle.mc_tables.proofs.CacheLemmas.{same_key-equivalence, key_cmp-total}
use Rattle.mc_tables.proofs.CacheMapLemmas.{key_cmp-antisymmetric}
use Rattle.mc_tables.proofs.UnlistedRowLemmas.{same_key-equal}

-- ---- the order of pairs

-- a greater pair: the other one is less
key_cmp-greater_flip : (x y : ℕ × ℕ) → key_cmp x y ≡ Greater → key_cmp y x ≡ Less
key_cmp-greater_flip x y is = key_cmp-total.antisymm y x ∙ ap ordering_reverse is

-- a lesser pair: the other one is greater
key_cmp-less_flip : (x y : ℕ × ℕ) → key_cmp x y ≡ Less → key_cmp y x ≡ Greater
key_cmp-less_flip x y is = key_cmp-total.antisymm y x ∙ ap ordering_reverse is

-- a pair is not less than one that is at most it, by comparing both parts
pub key_cmp-not_less : (x y : ℕ × ℕ)
    → true ≡ partial_le (λ (x : ℕ × ℕ) (y : ℕ × ℕ).
    partial_ordering_then (Some (nat_cmp x.0 y.0)) (Some (nat_cmp x.1 y.1))) x y
    → key_cmp y x ≢ Less
key_cmp-not_less x y le less =
    let at_most : is_le (key_cmp x y) ≡ true =
    elim (nat_cmp x.0 y.0) as (λ r.
    true ≡ is_some_and is_le (partial_ordering_then (Some r) (Some (nat_cmp x.1 y.1)))
    → is_le (ordering_then r (nat_cmp x.1 y.1)) ≡ true) [
      | Less ↦ λ e. refl
      | Equal ↦ λ e. sym e
      | Greater ↦ λ e. absurd cc
    ] le in
    true≢false (sym at_most ∙ ap is_le (key_cmp-less_flip y x less))

-- a pair that isn't less than one is greater than each lesser one
key_cmp-greater_than_lesser : (pair x p : ℕ × ℕ) → key_cmp pair x ≢ Less → key_cmp p x ≡ Less
    → key_cmp pair p ≡ Greater
key_cmp-greater_than_lesser pair x p above less =
    elim (key_cmp pair x) as (λ r. key_cmp pair x ≡ r → key_cmp pair p ≡ Greater) [
      | Less ↦ λ is. absurd (above is)
      | Equal ↦ λ is. key_cmp-total.congr pair x p is ∙ key_cmp-less_flip p x less
      | Greater ↦ λ is. key_cmp-less_flip p pair
          (key_cmp-total.trans p x pair less (key_cmp-greater_flip pair x is))
    ] refl

-- ---- ascending pairs

-- each of these is greater than a pair
abbrev pub AreAbove : ℕ × ℕ → List (ℕ × ℕ) → Type 0
AreAbove x ps = AllByRecursion (λ y. key_cmp x y ≡ Less) ps

-- what is above a pair is above a lesser one
pub are_above-lesser : (pair p : ℕ × ℕ) (ps : List (ℕ × ℕ)) → key_cmp pair p ≡ Less → AreAbove p ps
    → AreAbove pair ps
are_above-lesser pair p [] less all = tt
are_above-lesser pair p (q ∷ ps) less all =
    (key_cmp-total.trans pair p q less all.0, are_above-lesser pair p ps less all.1)

-- with one more that is above it
are_above-put_pair : (x pair : ℕ × ℕ) (ps : List (ℕ × ℕ)) → key_cmp x pair ≡ Less → AreAbove x ps
    → AreAbove x (put_pair pair ps)
are_above-put_pair x pair [] less all = (less, tt)
are_above-put_pair x pair (p ∷ ps) less all =
    elim (key_cmp pair p) as (λ r. AreAbove x (put_at r pair p ps (put_pair pair ps))) [
      | Less ↦ (less, all)
      | Equal ↦ all
      | Greater ↦ (all.0, are_above-put_pair x pair ps less all.1)
    ]

-- the first ones of those above it
are_above-take : (n : ℕ) (x : ℕ × ℕ) (ps : List (ℕ × ℕ)) → AreAbove x ps → AreAbove x (take n ps)
are_above-take zero x ps all = tt
are_above-take (suc n) x [] all = tt
are_above-take (suc n) x (p ∷ ps) all = (all.0, are_above-take n x ps all.1)

-- pairs that ascend still ascend with one more at its place
put_pair-ascends : (pair : ℕ × ℕ) (ps : List (ℕ × ℕ)) → IsStrictlySortedBy key_cmp ps
    → IsStrictlySortedBy key_cmp (put_pair pair ps)
unfolding IsStrictlySortedBy
put_pair-ascends pair [] up = (tt, tt)
put_pair-ascends pair (p ∷ ps) up =
    elim (key_cmp pair p) as (λ r. key_cmp pair p ≡ r
    → IsStrictlySortedBy key_cmp (put_at r pair p ps (put_pair pair ps))) [
      | Less ↦ λ is. ((is, are_above-lesser pair p ps is up.0), up)
      | Equal ↦ λ is. up
      | Greater ↦ λ is. (
        are_above-put_pair p pair ps
            (key_cmp-greater_flip pair p is) up.0,
        put_pair-ascends pair ps up.1,
      )
    ] refl

-- the first ones of pairs that ascend do too
take-ascends : (n : ℕ) (ps : List (ℕ × ℕ)) → IsStrictlySortedBy key_cmp ps
    → IsStrictlySortedBy key_cmp (take n ps)
unfolding IsStrictlySortedBy
take-ascends zero ps up = tt
take-ascends (suc n) [] up = tt
take-ascends (suc n) (p ∷ ps) up = (are_above-take n p ps up.0, take-ascends n ps up.1)

-- so do the first 20 with one more
pub take_put_pair-ascends : (pair : ℕ × ℕ) (ps : List (ℕ × ℕ)) → IsStrictlySortedBy key_cmp ps
    → IsStrictlySortedBy key_cmp (take 20 (put_pair pair ps))
take_put_pair-ascends pair ps up = take-ascends 20 (put_pair pair ps) (put_pair-ascends pair ps up)

-- they may be searched by halves
is_sorted-from_strict : (ps : List (ℕ × ℕ)) → IsStrictlySortedBy key_cmp ps → IsSorted key_cmp ps
is_sorted-from_strict ps up = λ k d low high.
    ap is_lt (key_cmp-less_flip (get_or ps k d) (get_or ps (k + 1) d)
    (Less-from_sorted key_cmp ps k (k + 1) d up (omega arith) high))

-- by how each compares with a pair
search_order-from_strict : (ps : List (ℕ × ℕ)) (pair : ℕ × ℕ) → IsStrictlySortedBy key_cmp ps
    → IsNonDecreasingBy (λ p. ordering_index (key_cmp p pair)) ps
search_order-from_strict ps pair up =
    searchable_from_sorted key_cmp-total (λ p. p) ps pair (is_sorted-from_strict ps up)

-- ---- a pair at its place

-- a pair that is there
pub put_pair-member : (pair d : ℕ × ℕ) (ps : List (ℕ × ℕ)) (i : ℕ) → IsStrictlySortedBy key_cmp ps
    → i < length ps → key_cmp (get_or ps i d) pair ≡ Equal → put_pair pair ps ≡ ps
unfolding IsStrictlySortedBy
put_pair-member pair d [] i up lt is = absurd (omega (arith, lt))
put_pair-member pair d (p ∷ ps) zero up lt is =
    let same : p ≡ pair = key_cmp-antisymmetric p pair is in
    ap (λ r. put_at r pair p ps (put_pair pair ps))
    (ap (key_cmp pair) same ∙ tied_itself key_cmp-total pair)
put_pair-member pair d (p ∷ ps) (suc i) up lt is =
    let below : i < length ps = omega (arith, lt) in
    let same : get_or ps i d ≡ pair = key_cmp-antisymmetric (get_or ps i d) pair is in
    let less : key_cmp p pair ≡ Less =
    ap (key_cmp p) (sym same)
    ∙ Less-from_sorted key_cmp (p ∷ ps) 0 (suc i) d up (omega arith) (omega (arith, lt)) in
    ap (λ r. put_at r pair p ps (put_pair pair ps)) (key_cmp-less_flip p pair less)
    ∙ ap (λ (l : List (ℕ × ℕ)). p ∷ l) (put_pair-member pair d ps i up.1 below is)

-- a pair that belongs between those before a place and those from it on
put_pair-between : (pair : ℕ × ℕ) (ps : List (ℕ × ℕ)) (i : ℕ) → i ≤ length ps
    → ((k : ℕ) (d : ℕ × ℕ) → k < i → key_cmp (get_or ps k d) pair ≡ Less)
    → ((k : ℕ) (d : ℕ × ℕ) → i ≤ k → k < length ps → key_cmp (get_or ps k d) pair ≡ Greater)
    → put_pair pair ps ≡ insert ps i pair
put_pair-between pair [] zero le before after = refl
put_pair-between pair [] (suc i) le before after = absurd (omega (arith, le))
put_pair-between pair (p ∷ ps) zero le before after =
    ap (λ r. put_at r pair p ps (put_pair pair ps))
    (key_cmp-greater_flip p pair (after 0 p (omega arith) (omega arith)))
put_pair-between pair (p ∷ ps) (suc i) le before after =
    ap (λ r. put_at r pair p ps (put_pair pair ps)) (key_cmp-less_flip p pair (before 0 p (omega arith)))
    ∙ ap (λ (l : List (ℕ × ℕ)). p ∷ l) (put_pair-between pair ps i (omega (arith, le))
    (λ k d lt. before (suc k) d (omega (arith, lt)))
    (λ k d low high. after (suc k) d (omega (arith, low)) (omega (arith, high))))

-- a pair for which a search found a place
pub put_pair-at_search_place : (pair : ℕ × ℕ) (ps seen : List (ℕ × ℕ)) (i : ℕ) → seen ≡ ps
    → IsStrictlySortedBy key_cmp ps → i ≤ length seen
    → (IsNonDecreasingBy (λ p. ordering_index (key_cmp p pair)) seen
    → IsPartitionPoint (λ p. key_cmp p pair ≡ Less) (λ p. key_cmp p pair ≡ Greater) seen i)
    → put_pair pair ps ≡ insert ps i pair
put_pair-at_search_place pair ps seen i is up le found =
    let parts = subst (λ (l : List (ℕ × ℕ)). IsNonDecreasingBy (λ p. ordering_index (key_cmp p pair)) l
    → IsPartitionPoint (λ p. key_cmp p pair ≡ Less) (λ p. key_cmp p pair ≡ Greater) l i) is found
    (search_order-from_strict ps pair up) in
    put_pair-between pair ps i (subst (λ (l : List (ℕ × ℕ)). i ≤ length l) is le)
    (λ k d lt. parts.0 k d (omega arith) lt) parts.1

-- a pair that isn't less than the one at a place changes none up to there
pub take_put_pair-above : (pair d : ℕ × ℕ) (ps : List (ℕ × ℕ)) (i : ℕ) → IsStrictlySortedBy key_cmp ps
    → i < length ps → key_cmp pair (get_or ps i d) ≢ Less
    → take (suc i) (put_pair pair ps) ≡ take (suc i) ps
unfolding IsStrictlySortedBy
take_put_pair-above pair d [] i up lt above = absurd (omega (arith, lt))
take_put_pair-above pair d (p ∷ ps) zero up lt above =
    elim (key_cmp pair p) as (λ r. key_cmp pair p ≡ r
    → take 1 (put_at r pair p ps (put_pair pair ps)) ≡ p ∷ []) [
      | Less ↦ λ is. absurd (above is)
      | Equal ↦ λ is. refl
      | Greater ↦ λ is. refl
    ] refl
take_put_pair-above pair d (p ∷ ps) (suc i) up lt above =
    let less : key_cmp p (get_or ps i d) ≡ Less =
    Less-from_sorted key_cmp (p ∷ ps) 0 (suc i) d up (omega arith) (omega (arith, lt)) in
    ap (λ r. take (suc (suc i)) (put_at r pair p ps (put_pair pair ps)))
    (key_cmp-greater_than_lesser pair (get_or ps i d) p above less)
    ∙ ap (λ (l : List (ℕ × ℕ)). p ∷ l) (take_put_pair-above pair d ps i up.1 (omega (arith, lt)) above)

-- ---- the lowest

-- the first ones of the first ones, with one before them
take-cons_take : (n : ℕ) (p : ℕ × ℕ) (ps : List (ℕ × ℕ)) → take n (p ∷ take n ps) ≡ take n (p ∷ ps)
take-cons_take zero p ps = refl
take-cons_take (suc n) p ps = ap (λ (l : List (ℕ × ℕ)). p ∷ l) (take-take n (suc n) ps (omega arith))

-- one more among the lowest is one more among all
take_put_pair-take : (n : ℕ) (pair : ℕ × ℕ) (ps : List (ℕ × ℕ))
    → take n (put_pair pair (take n ps)) ≡ take n (put_pair pair ps)
take_put_pair-take zero pair ps = refl
take_put_pair-take (suc n) pair [] = refl
take_put_pair-take (suc n) pair (p ∷ ps) =
    elim (key_cmp pair p) as (λ r. take (suc n) (put_at r pair p (take n ps) (put_pair pair (take n ps)))
    ≡ take (suc n) (put_at r pair p ps (put_pair pair ps))) [
      | Less ↦ ap (λ (l : List (ℕ × ℕ)). pair ∷ l) (take-cons_take n p ps)
      | Equal ↦ ap (λ (l : List (ℕ × ℕ)). p ∷ l) (take-take n n ps (omega arith))
      | Greater ↦ ap (λ (l : List (ℕ × ℕ)). p ∷ l) (take_put_pair-take n pair ps)
    ]

-- pairs as the keys of a map
abbrev pub as_keys : List (ℕ × ℕ) → List ((ℕ × ℕ) × Unit {0})
as_keys ps = map (λ p. (p, tt {0})) ps

-- one more key
map-put_key : (pair : ℕ × ℕ) (es : List ((ℕ × ℕ) × Unit {0}))
    → map (λ e. e.0) (fin.put key_cmp pair (tt {0}) es) ≡ put_pair pair (map (λ e. e.0) es)
map-put_key pair [] = refl
map-put_key pair (e ∷ es) =
    let put = fin.put key_cmp pair (tt {0}) es in
    elim (key_cmp pair e.0) as (λ r. map (λ (e : (ℕ × ℕ) × Unit {0}). e.0)
    (by_order r ((pair, tt {0}) ∷ e ∷ es) ((e.0, tt {0}) ∷ es) (e ∷ put))
    ≡ put_at r pair e.0 (map (λ (e : (ℕ × ℕ) × Unit {0}). e.0) es)
    (put_pair pair (map (λ (e : (ℕ × ℕ) × Unit {0}). e.0) es))) [
      | Less ↦ refl
      | Equal ↦ refl
      | Greater ↦ ap (λ (l : List (ℕ × ℕ)). e.0 ∷ l) (map-put_key pair es)
    ]

-- one more at the end is found like one more at the front
find-push : (q pair : ℕ × ℕ) (ps : List (ℕ × ℕ))
    → fin.find key_cmp q (as_keys (ps ++ pair ∷ []))
    ≡ cond (eq_by_cmp key_cmp q pair) (Some (tt {0})) (fin.find key_cmp q (as_keys ps))
find-push q pair [] = refl
find-push q pair (p ∷ ps) =
    ap (cond (eq_by_cmp key_cmp q p) (Some (tt {0}))) (find-push q pair ps)
    ∙ elim (eq_by_cmp key_cmp q p) as (λ a. cond a (Some (tt {0}))
    (cond (eq_by_cmp key_cmp q pair) (Some (tt {0})) (fin.find key_cmp q (as_keys ps)))
    ≡ cond (eq_by_cmp key_cmp q pair) (Some (tt {0}))
    (cond a (Some (tt {0})) (fin.find key_cmp q (as_keys ps)))) [
      | true ↦ elim (eq_by_cmp key_cmp q pair) as
          (λ b. Some (tt {0}) ≡ cond b (Some (tt {0})) (Some (tt {0}))) [
            | true ↦ refl
            | false ↦ refl
          ]
      | false ↦ refl
    ]

-- the pairs in order, with one more
in_order-push : (ps : List (ℕ × ℕ)) (pair : ℕ × ℕ)
    → in_order (ps ++ pair ∷ []) ≡ put_pair pair (in_order ps)
in_order-push ps pair =
    let all = fin.from_entries {R = key_cmp} (as_keys ps) in
    let same : fin.from_entries {R = key_cmp} (as_keys (ps ++ pair ∷ [])) ≡ fin.insert all pair (tt {0}) =
    fin.same_map key_cmp-total key_cmp-antisymmetric _ _ (λ q.
    fin.get-from_entries key_cmp-total (as_keys (ps ++ pair ∷ [])) q
    ∙ find-push q pair ps
    ∙ ap (cond (eq_by_cmp key_cmp q pair) (Some (tt {0})))
    (sym (fin.get-from_entries key_cmp-total (as_keys ps) q))
    ∙ sym (fin.get-insert key_cmp-total all pair (tt {0}) q)) in
    ap fin.keys same
    ∙ ap (map (λ e. e.0)) (fin.entries-insert key_cmp-total all pair (tt {0}))
    ∙ map-put_key pair (fin.entries all)

-- and the lowest, with one more
pub take_in_order-push : (ps : List (ℕ × ℕ)) (pair : ℕ × ℕ)
    → take 20 (in_order (ps ++ pair ∷ [])) ≡ take 20 (put_pair pair (take 20 (in_order ps)))
take_in_order-push ps pair =
    ap (take 20) (in_order-push ps pair) ∙ sym (take_put_pair-take 20 pair (in_order ps))

-- no pairs in order are none
pub in_order-none : [] ≡ in_order []
in_order-none =
    let none = fin.empty {X = Unit {0}} {R = key_cmp} in
    ap (map (λ (e : (ℕ × ℕ) × Unit {0}). e.0))
    (sym (nil_from_length (fin.entries none) (sym (fin.len-entries none) ∙ fin.len-empty key_cmp (Unit {0}))))

-- the lowest of none are none
pub take_in_order-none : [] ≡ take 20 (in_order [])
take_in_order-none = ap (take 20) in_order-none

-- ---- all pairs, or the lowest

-- one more
pub shown_pairs-push : (all : Bool) (ps : List (ℕ × ℕ)) (pair : ℕ × ℕ)
    → shown_pairs all (in_order (ps ++ pair ∷ []))
    ≡ shown_pairs all (put_pair pair (shown_pairs all (in_order ps)))
shown_pairs-push true ps pair = in_order-push ps pair
shown_pairs-push false ps pair = take_in_order-push ps pair

-- none
pub shown_pairs-none : (all : Bool) → [] ≡ shown_pairs all (in_order [])
shown_pairs-none true = in_order-none
shown_pairs-none false = take_in_order-none

-- ---- pairs that were sorted

-- a test that is true passes
is_true-from_eq : (b : Bool) → b ≡ true → T b
is_true-from_eq b is = subst T (sym is) tt

-- what is above a pair is above it as a key
below_all-as_keys : (x : ℕ × ℕ) (ps : List (ℕ × ℕ)) → AreAbove x ps
    → below_all key_cmp x (as_keys ps) ≡ true
below_all-as_keys x [] all = refl
below_all-as_keys x (p ∷ ps) all =
    ap (λ r. is_lt r && below_all key_cmp x (as_keys ps)) all.0 ∙ below_all-as_keys x ps all.1

-- ascending pairs are the keys of a map
is_sorted-as_keys : (ps : List (ℕ × ℕ)) → IsStrictlySortedBy key_cmp ps
    → is_sorted key_cmp (as_keys ps) ≡ true
unfolding IsStrictlySortedBy
is_sorted-as_keys [] up = refl
is_sorted-as_keys (p ∷ ps) up =
    ap (λ b. b && is_sorted key_cmp (as_keys ps)) (below_all-as_keys p ps up.0) ∙ is_sorted-as_keys ps up.1

-- pairs are got back from their keys
map-as_keys : (ps : List (ℕ × ℕ)) → map (λ e. e.0) (as_keys ps) ≡ ps
map-as_keys [] = refl
map-as_keys (p ∷ ps) = ap (λ (l : List (ℕ × ℕ)). p ∷ l) (map-as_keys ps)

-- ascending pairs are those in order if the same pairs are found in them
in_order-unique : (ps up : List (ℕ × ℕ)) → IsStrictlySortedBy key_cmp up
    → ((q : ℕ × ℕ) → fin.find key_cmp q (as_keys up) ≡ fin.find key_cmp q (as_keys ps))
    → up ≡ in_order ps
in_order-unique ps up ascend same =
    let m = fin.from_entries {R = key_cmp} (as_keys ps) in
    sym (map-as_keys up)
    ∙ ap (map (λ (e : (ℕ × ℕ) × Unit {0}). e.0))
    (same_entries key_cmp key_cmp-total key_cmp-antisymmetric (as_keys up) (fin.entries m)
    (is_true-from_eq (is_sorted key_cmp (as_keys up)) (is_sorted-as_keys up ascend)) (fin.entries_sorted m)
    (λ q. same q ∙ sym (fin.get-from_entries key_cmp-total (as_keys ps) q) ∙ fin.get-entries m q))

-- a pair that is in the list is found
pub find-contained : (q : ℕ × ℕ) (ps : List (ℕ × ℕ)) (k : ℕ) → k < length ps → get_or ps k q ≡ q
    → fin.find key_cmp q (as_keys ps) ≡ Some (tt {0})
find-contained q [] k lt is = absurd (omega (arith, lt))
find-contained q (p ∷ ps) zero lt is =
    ap (λ b. cond b (Some (tt {0})) (fin.find key_cmp q (as_keys ps)))
    (ap (same_key q) is ∙ same_key-equivalence.refl q)
find-contained q (p ∷ ps) (suc k) lt is =
    elim (same_key q p) as (λ b.
    cond b (Some (tt {0})) (fin.find key_cmp q (as_keys ps)) ≡ Some (tt {0})) [
      | true ↦ refl
      | false ↦ find-contained q ps k (omega (arith, lt)) is
    ]

-- a pair that is found is in the list
pub contains-found : (q : ℕ × ℕ) (ps : List (ℕ × ℕ))
    → fin.find key_cmp q (as_keys ps) ≡ Some (tt {0}) → Contains ps q
contains-found q [] is = absurd cc
contains-found q (p ∷ ps) is =
    elim (same_key q p) as (λ b. same_key q p ≡ b
    → cond b (Some (tt {0})) (fin.find key_cmp q (as_keys ps)) ≡ Some (tt {0})
    → Contains (p ∷ ps) q) [
      | true ↦ λ same is. (0, omega arith, sym (same_key-equal q p same))
      | false ↦ λ other is.
          let later = contains-found q ps is in
          (suc later.0, omega (arith, later.1), later.2)
    ] refl is

-- the keys of the entries are the entries
as_keys-map_keys : (es : List ((ℕ × ℕ) × Unit {0})) → as_keys (map (λ e. e.0) es) ≡ es
as_keys-map_keys [] = refl
as_keys-map_keys (e ∷ es) = ap (λ (ys : List ((ℕ × ℕ) × Unit {0})). e ∷ ys) (as_keys-map_keys es)

-- the same keys are found in order
pub find-in_order : (q : ℕ × ℕ) (ps : List (ℕ × ℕ))
    → fin.find key_cmp q (as_keys (in_order ps)) ≡ fin.find key_cmp q (as_keys ps)
find-in_order q ps =
    let m = fin.from_entries {R = key_cmp} (as_keys ps) in
    ap (fin.find key_cmp q) (as_keys-map_keys (fin.entries m)) ∙ sym (fin.get-entries m q)
    ∙ fin.get-from_entries key_cmp-total (as_keys ps) q

-- a pair that is in the list is among its pairs in order
pub contains-in_order : (q : ℕ × ℕ) (ps : List (ℕ × ℕ)) → Contains ps q → Contains (in_order ps) q
contains-in_order q ps there =
    contains-found q (in_order ps) (find-in_order q ps ∙ find-contained q ps there.0 there.1 there.2)

-- two marks are equal if each is there where the other is
pub marks-equal_from_both : (a b : Option (Unit {0})) → (a ≡ Some (tt {0}) → b ≡ Some (tt {0}))
    → (b ≡ Some (tt {0}) → a ≡ Some (tt {0})) → a ≡ b
marks-equal_from_both None None there back = refl
marks-equal_from_both None (Some y) there back = back refl
marks-equal_from_both (Some x) b there back = sym (there refl)

-- two orders in sequence give Equal exactly if both do
ordering_then-both_equal : (r s : Ordering) → (is_eq r && is_eq s) ≡ is_eq (ordering_then r s)
ordering_then-both_equal Less s = refl
ordering_then-both_equal Equal s = refl
ordering_then-both_equal Greater s = refl

-- two pairs are equal if both their parts are
pub equal_parts-same_key : (x y : ℕ × ℕ) → (eqb x.0 y.0 && eqb x.1 y.1) ≡ same_key x y
equal_parts-same_key x y =
    ap₂ (λ (a b : Bool). a && b) (unsigned_ties x.0 y.0) (unsigned_ties x.1 y.1)
    ∙ ordering_then-both_equal (nat_cmp x.0 y.0) (nat_cmp x.1 y.1)

-- a test of equality is an equivalence
equivalence-from_same_key : (E : ℕ × ℕ → ℕ × ℕ → Bool) → ((x y : ℕ × ℕ) → E x y ≡ same_key x y)
    → IsEquivalence E
equivalence-from_same_key E ties = record {
  refl = λ x. ties x x ∙ same_key-equivalence.refl x;
  symm = λ x y. ties x y ∙ same_key-equivalence.symm x y ∙ sym (ties y x);
  congr = λ x y z e. ties x z ∙ same_key-equivalence.congr x y z (sym (ties x y) ∙ e) ∙ sym (ties y z);
}

-- sorted pairs without repeats are the pairs in order
pub dedup-in_order : (E : ℕ × ℕ → ℕ × ℕ → Bool) → ((x y : ℕ × ℕ) → E x y ≡ same_key x y)
    → (ps sorted : List (ℕ × ℕ)) → IsPermutation ps sorted → IsSorted key_cmp sorted
    → dedup E sorted ≡ in_order ps
dedup-in_order E ties ps sorted moves order =
    let once = dedup E sorted in
    let same = equivalence-from_same_key E ties in
    in_order-unique ps once (IsStrictlySortedBy-dedup key_cmp-total ties sorted order) (λ q.
    marks-equal_from_both (fin.find key_cmp q (as_keys once)) (fin.find key_cmp q (as_keys ps))
    (λ found. let there = Contains-permutation sorted ps q (IsPermutation-sym ps sorted moves)
    (Contains-from_dedup E sorted q (contains-found q once found)) in
    find-contained q ps there.0 there.1 there.2)
    (λ found. let there = Contains-dedup same (λ x y e. same_key-equal x y (sym (ties x y) ∙ e)) sorted q
    (Contains-permutation ps sorted q moves (contains-found q ps found)) in
    find-contained q once there.0 there.1 there.2))
