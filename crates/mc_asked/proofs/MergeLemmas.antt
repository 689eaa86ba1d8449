-- The lowest of many pairs are found among the lowest of each part.
use Rattle.std.proofs.Common.{◌≡◌, ℕ, zero, suc, ◌≤◌, Bool, true, false, cond, List, [], ◌∷◌, ◌++◌, take}
use Rattle.std.proofs.Common.{T, map, flat_map, Option, Some, None, refl, sym, ap, subst, ◌∙◌, arith}
use Rattle.std.proofs.Common.{append-nil, append_assoc}
use Rattle.std.specs.FinMap as fin
use Rattle.std.specs.FinMap.Entries.{below_all}
use Rattle.std.specs.List.{AllByRecursion}
use Rattle.std.specs.List.Sorted.{IsStrictlySortedBy}
use Rattle.std.specs.Ordering.{eq_by_cmp, is_lt, ordering_reverse}
use Rattle.std.specs.declared.cmp.Ordering.{Ordering}
use Rattle.std.specs.declared.cmp.Ordering.TheVariants.{Less, Equal, Greater}
use Rattle.std.proofs.lemmas.Bool.{and_parts}
use Rattle.std.proofs.lemmas.List.{take-take}
use Rattle.mc_tables.specs.CacheTable.{key_cmp}
use Rattle.mc_tables.specs.Summary.{in_order, shown_pairs}
use Rattle.mc_tables.specs.SummarySoFar.{put_at, put_pair}
use Rattle.mc_tables.proofs.CacheLemmas.{key_cmp-total}
use Rattle.mc_tables.proofs.CacheMapLemmas.{key_cmp-antisymmetric}
use Rattle.mc_tables.proofs.LowestLemmas.{as_keys, find-in_order, take_in_order-push}
use Rattle.mc_asked.proofs.LowestOfParts.{lowest, is_strictly_sorted_by-lowest}

-- ---- merging two ascending lists

-- the lower of two first pairs, and what is merged after it
abbrev pub merge_step : Ordering → (a b : ℕ × ℕ) → (after_a after_both after_b : List (ℕ × ℕ))
    → List (ℕ × ℕ)
merge_step Less a b after_a after_both after_b = a ∷ after_a
merge_step Equal a b after_a after_both after_b = a ∷ after_both
merge_step Greater a b after_a after_both after_b = b ∷ after_b

-- a pair, and what is merged after it
abbrev pub merge_into : ℕ × ℕ → (List (ℕ × ℕ) → List (ℕ × ℕ)) → List (ℕ × ℕ) → List (ℕ × ℕ)
merge_into a f [] = a ∷ f []
merge_into a f (b ∷ l) = merge_step (key_cmp a b) a b (f (b ∷ l)) (f l) (merge_into a f l)

-- both lists in one, ascending
abbrev pub merge : List (ℕ × ℕ) → List (ℕ × ℕ) → List (ℕ × ℕ)
merge [] l = l
merge (a ∷ s) l = merge_into a (merge s) l

-- with an empty list
merge-nil : (s : List (ℕ × ℕ)) → merge s [] ≡ s
merge-nil [] = refl
merge-nil (a ∷ s) = ap (λ (l : List (ℕ × ℕ)). a ∷ l) (merge-nil s)

-- the first k of the merged list depend only on the first ones of each list
take-merge_right : (k m : ℕ) → k ≤ m → (s l : List (ℕ × ℕ))
    → take k (merge s l) ≡ take k (merge s (take m l))
take-merge_right zero m le s l = refl
take-merge_right (suc k) zero le s l = absurd (omega (arith, le))
take-merge_right (suc k) (suc m) le [] l = sym (take-take (suc k) (suc m) l le)
take-merge_right (suc k) (suc m) le (a ∷ s) [] = refl
take-merge_right (suc k) (suc m) le (a ∷ s) (b ∷ l) =
    elim (key_cmp a b) as (λ r.
    take (suc k) (merge_step r a b (merge s (b ∷ l)) (merge s l) (merge_into a (merge s) l))
    ≡ take (suc k) (merge_step r a b (merge s (b ∷ take m l)) (merge s (take m l))
    (merge_into a (merge s) (take m l)))) [
      | Less ↦ ap (λ (x : List (ℕ × ℕ)). a ∷ x) (take-merge_right k (suc m) (omega (arith, le)) s (b ∷ l))
      | Equal ↦ ap (λ (x : List (ℕ × ℕ)). a ∷ x) (take-merge_right k m (omega (arith, le)) s l)
      | Greater ↦ ap (λ (x : List (ℕ × ℕ)). b ∷ x) (take-merge_right k m (omega (arith, le)) (a ∷ s) l)
    ]

-- and of the first list
take-merge_left : (k m : ℕ) → k ≤ m → (s l : List (ℕ × ℕ))
    → take k (merge s l) ≡ take k (merge (take m s) l)
take-merge_left zero m le s l = refl
take-merge_left (suc k) zero le s l = absurd (omega (arith, le))
take-merge_left (suc k) (suc m) le [] l = refl
take-merge_left (suc k) (suc m) le (a ∷ s) [] =
    ap (λ (x : List (ℕ × ℕ)). a ∷ x) (take-merge_left k m (omega (arith, le)) s [])
take-merge_left (suc k) (suc m) le (a ∷ s) (b ∷ l) =
    elim (key_cmp a b) as (λ r.
    take (suc k) (merge_step r a b (merge s (b ∷ l)) (merge s l) (merge_into a (merge s) l))
    ≡ take (suc k) (merge_step r a b (merge (take m s) (b ∷ l)) (merge (take m s) l)
    (merge_into a (merge (take m s)) l))) [
      | Less ↦ ap (λ (x : List (ℕ × ℕ)). a ∷ x) (take-merge_left k m (omega (arith, le)) s (b ∷ l))
      | Equal ↦ ap (λ (x : List (ℕ × ℕ)). a ∷ x) (take-merge_left k m (omega (arith, le)) s l)
      | Greater ↦ ap (λ (x : List (ℕ × ℕ)). b ∷ x) (take-merge_left k (suc m) (omega (arith, le)) (a ∷ s) l)
    ]

-- ---- one pair more at the front of the second list

-- each of these is greater than a pair
abbrev pub AreAbove : ℕ × ℕ → List (ℕ × ℕ) → Type 0
AreAbove x ps = AllByRecursion (λ y. key_cmp x y ≡ Less) ps

-- what is above a pair is above a lesser one
pub are_above-trans : (a b : ℕ × ℕ) (l : List (ℕ × ℕ)) → key_cmp a b ≡ Less → AreAbove b l → AreAbove a l
are_above-trans a b [] less all = tt
are_above-trans a b (c ∷ l) less all =
    (key_cmp-total.trans a b c less all.0, are_above-trans a b l less all.1)

-- the order of two pairs the other way round
key_cmp-flip : (x y : ℕ × ℕ) (r : Ordering) → key_cmp x y ≡ r → key_cmp y x ≡ ordering_reverse r
key_cmp-flip x y r is = key_cmp-total.antisymm y x ∙ ap ordering_reverse is

-- a pair below all others comes first
merge_into-above : (a : ℕ × ℕ) (f : List (ℕ × ℕ) → List (ℕ × ℕ)) (l : List (ℕ × ℕ)) → AreAbove a l
    → merge_into a f l ≡ a ∷ f l
merge_into-above a f [] all = refl
merge_into-above a f (b ∷ l) all =
    ap (λ (r : Ordering). merge_step r a b (f (b ∷ l)) (f l) (merge_into a f l)) all.0

-- a pair is put into the first list, or is in front of the second
merge-put_pair : (b : ℕ × ℕ) (s l : List (ℕ × ℕ)) → AreAbove b l
    → merge (put_pair b s) l ≡ merge s (b ∷ l)
merge-put_pair b [] l all = merge_into-above b (λ (x : List (ℕ × ℕ)). x) l all
merge-put_pair b (a ∷ s) l all =
    elim (key_cmp b a) as (λ r. key_cmp b a ≡ r
    → merge (put_at r b a s (put_pair b s)) l ≡ merge (a ∷ s) (b ∷ l)) [
      | Less ↦ λ is. merge_into-above b (merge (a ∷ s)) l all ∙ sym (first (key_cmp-flip b a Less is))
      | Equal ↦ λ is.
          merge_into-above a (merge s) l (subst (λ (x : ℕ × ℕ). AreAbove x l) (key_cmp-antisymmetric b a is)
          all)
          ∙ sym (first (key_cmp-flip b a Equal is))
      | Greater ↦ λ is.
          merge_into-above a (merge (put_pair b s)) l (are_above-trans a b l (key_cmp-flip b a Greater is)
          all)
          ∙ ap (λ (x : List (ℕ × ℕ)). a ∷ x) (merge-put_pair b s l all)
          ∙ sym (first (key_cmp-flip b a Greater is))
    ] refl
  where
    first : {r : Ordering} → key_cmp a b ≡ r → merge (a ∷ s) (b ∷ l)
        ≡ merge_step r a b (merge s (b ∷ l)) (merge s l) (merge_into a (merge s) l)
    first e =
        ap (λ (r : Ordering). merge_step r a b (merge s (b ∷ l)) (merge s l) (merge_into a (merge s) l)) e

-- ---- the lowest of ascending pairs after others

-- they are merged with the lowest of the others
pub lowest-append : (qs l : List (ℕ × ℕ)) → IsStrictlySortedBy key_cmp l
    → lowest (qs ++ l) ≡ take 20 (merge (lowest qs) l)
unfolding IsStrictlySortedBy
lowest-append qs [] up =
    ap lowest (append-nil qs) ∙ sym (take-take 20 20 (in_order qs) (omega arith))
    ∙ ap (take 20) (sym (merge-nil (lowest qs)))
lowest-append qs (b ∷ l) up =
    ap lowest (sym (append_assoc qs (b ∷ []) l)) ∙ lowest-append (qs ++ b ∷ []) l up.1
    ∙ ap (λ (s : List (ℕ × ℕ)). take 20 (merge s l)) (take_in_order-push qs b)
    ∙ sym (take-merge_left 20 20 (omega arith) (put_pair b (lowest qs)) l)
    ∙ ap (take 20) (merge-put_pair b (lowest qs) l up.0)

-- ---- all pairs in order

-- a test that passes is true
true-from_t : (b : Bool) → T b → b ≡ true
true-from_t true is = refl
true-from_t false is = absurd is

-- what is tested to be less is less
less-from_is_lt : (r : Ordering) → is_lt r ≡ true → r ≡ Less
less-from_is_lt Less is = refl
less-from_is_lt Equal is = absurd cc
less-from_is_lt Greater is = absurd cc

-- keys above a pair
are_above-from_below_all : (x : ℕ × ℕ) (es : List ((ℕ × ℕ) × Unit {0})) → below_all key_cmp x es ≡ true
    → AreAbove x (map (λ e. e.0) es)
are_above-from_below_all x [] is = tt
are_above-from_below_all x (e ∷ es) is =
    let both = and_parts (is_lt (key_cmp x e.0)) (below_all key_cmp x es) is in
    (less-from_is_lt (key_cmp x e.0) both.0, are_above-from_below_all x es both.1)

-- the keys of a map ascend
is_strictly_sorted_by-from_is_sorted : (es : List ((ℕ × ℕ) × Unit {0})) → fin.is_sorted key_cmp es ≡ true
    → IsStrictlySortedBy key_cmp (map (λ e. e.0) es)
unfolding IsStrictlySortedBy
is_strictly_sorted_by-from_is_sorted [] is = tt
is_strictly_sorted_by-from_is_sorted (e ∷ es) is =
    let both = and_parts (below_all key_cmp e.0 es) (fin.is_sorted key_cmp es) is in
    (are_above-from_below_all e.0 es both.0, is_strictly_sorted_by-from_is_sorted es both.1)

-- so pairs in order ascend
pub is_strictly_sorted_by-in_order : (ps : List (ℕ × ℕ)) → IsStrictlySortedBy key_cmp (in_order ps)
is_strictly_sorted_by-in_order ps =
    let m = fin.from_entries {R = key_cmp} (as_keys ps) in
    is_strictly_sorted_by-from_is_sorted (fin.entries m)
    (true-from_t (fin.is_sorted key_cmp (fin.entries m)) (fin.entries_sorted m))

-- the same is found if the same is found behind
find-append_same_back : (q : ℕ × ℕ) (xs ys zs : List (ℕ × ℕ))
    → fin.find key_cmp q (as_keys ys) ≡ fin.find key_cmp q (as_keys zs)
    → fin.find key_cmp q (as_keys (xs ++ ys)) ≡ fin.find key_cmp q (as_keys (xs ++ zs))
find-append_same_back q [] ys zs same = same
find-append_same_back q (x ∷ xs) ys zs same =
    ap (cond (eq_by_cmp key_cmp q x) (Some (tt {0}))) (find-append_same_back q xs ys zs same)

-- what is found in the first, or else in the second
abbrev found_in_either : Option (Unit {0}) → Option (Unit {0}) → Option (Unit {0})
found_in_either None other = other
found_in_either (Some x) other = Some x

-- in two lists it is found in either
find-as_keys_append : (q : ℕ × ℕ) (xs ys : List (ℕ × ℕ)) → fin.find key_cmp q (as_keys (xs ++ ys))
    ≡ found_in_either (fin.find key_cmp q (as_keys xs)) (fin.find key_cmp q (as_keys ys))
find-as_keys_append q [] ys = refl
find-as_keys_append q (x ∷ xs) ys =
    elim (eq_by_cmp key_cmp q x) as (λ b.
    cond b (Some (tt {0})) (fin.find key_cmp q (as_keys (xs ++ ys)))
    ≡ found_in_either (cond b (Some (tt {0})) (fin.find key_cmp q (as_keys xs)))
    (fin.find key_cmp q (as_keys ys))) [
      | true ↦ refl
      | false ↦ find-as_keys_append q xs ys
    ]

-- the same is found if the same is found in front
find-append_same_front : (q : ℕ × ℕ) (xs ys zs : List (ℕ × ℕ))
    → fin.find key_cmp q (as_keys xs) ≡ fin.find key_cmp q (as_keys ys)
    → fin.find key_cmp q (as_keys (xs ++ zs)) ≡ fin.find key_cmp q (as_keys (ys ++ zs))
find-append_same_front q xs ys zs same = find-as_keys_append q xs zs ∙ ap (λ (o : Option (Unit {0})).
    found_in_either o (fin.find key_cmp q (as_keys zs))) same ∙ sym (find-as_keys_append q ys zs)

-- lists with the same pairs are the same in order
in_order-same_keys : (xs ys : List (ℕ × ℕ))
    → ((q : ℕ × ℕ) → fin.find key_cmp q (as_keys xs) ≡ fin.find key_cmp q (as_keys ys))
    → in_order xs ≡ in_order ys
in_order-same_keys xs ys same =
    ap fin.keys (fin.same_map key_cmp-total key_cmp-antisymmetric (fin.from_entries {R = key_cmp}
    (as_keys xs))
    (fin.from_entries {R = key_cmp} (as_keys ys)) (λ q.
    fin.get-from_entries key_cmp-total (as_keys xs) q ∙ same q
    ∙ sym (fin.get-from_entries key_cmp-total (as_keys ys) q)))

-- it doesn't matter whether the second part is in order
pub in_order-append_in_order : (xs ys : List (ℕ × ℕ)) → in_order (xs ++ in_order ys) ≡ in_order (xs ++ ys)
in_order-append_in_order xs ys =
    in_order-same_keys (xs ++ in_order ys) (xs ++ ys) (λ q. find-append_same_back q xs (in_order ys) ys
    (find-in_order q ys))

-- ---- the lowest of parts

-- of the second part the lowest are enough
lowest-append_lowest : (xs ys : List (ℕ × ℕ)) → lowest (xs ++ lowest ys) ≡ lowest (xs ++ ys)
lowest-append_lowest xs ys =
    lowest-append xs (lowest ys) (is_strictly_sorted_by-lowest ys)
    ∙ sym (take-merge_right 20 20 (omega arith) (lowest xs) (in_order ys))
    ∙ sym (lowest-append xs (in_order ys) (is_strictly_sorted_by-in_order ys))
    ∙ ap (take 20) (in_order-append_in_order xs ys)

-- and of the first
lowest-append_same_front : (xs ys zs : List (ℕ × ℕ)) → lowest xs ≡ lowest ys
    → lowest (xs ++ zs) ≡ lowest (ys ++ zs)
lowest-append_same_front xs ys [] same = ap lowest (append-nil xs) ∙ same ∙ ap lowest (sym (append-nil ys))
lowest-append_same_front xs ys (z ∷ zs) same =
    ap lowest (sym (append_assoc xs (z ∷ []) zs))
    ∙ lowest-append_same_front (xs ++ z ∷ []) (ys ++ z ∷ []) zs
    (take_in_order-push xs z ∙ ap (λ (l : List (ℕ × ℕ)). take 20 (put_pair z l)) same
    ∙ sym (take_in_order-push ys z))
    ∙ ap lowest (append_assoc ys (z ∷ []) zs)

-- so they are of each part
lowest-of_parts : {A B : Type 0} (part : B → List (ℕ × ℕ)) (kept : A → List (ℕ × ℕ)) (summarize : B → A)
    → ((x : B) → kept (summarize x) ≡ lowest (part x)) → (qs : List (ℕ × ℕ)) (xs : List B)
    → lowest (qs ++ flat_map kept (map summarize xs)) ≡ lowest (qs ++ flat_map part xs)
lowest-of_parts part kept summarize is qs [] = refl
lowest-of_parts part kept summarize is qs (x ∷ xs) =
    ap (λ (l : List (ℕ × ℕ)). lowest (qs ++ (l ++ flat_map kept (map summarize xs)))) (is x)
    ∙ ap lowest (sym (append_assoc qs (lowest (part x)) (flat_map kept (map summarize xs))))
    ∙ lowest-of_parts part kept summarize is (qs ++ lowest (part x)) xs
    ∙ lowest-append_same_front (qs ++ lowest (part x)) (qs ++ part x) (flat_map part xs)
    (lowest-append_lowest qs (part x))
    ∙ ap lowest (append_assoc qs (part x) (flat_map part xs))

-- ---- all of parts

-- it doesn't matter whether a part in the middle is in order
in_order-append_in_order_append : (xs ys zs : List (ℕ × ℕ)) → in_order (xs ++ (in_order ys ++ zs))
    ≡ in_order (xs ++ (ys ++ zs))
in_order-append_in_order_append xs ys zs =
    in_order-same_keys (xs ++ (in_order ys ++ zs)) (xs ++ (ys ++ zs)) (λ q.
    find-append_same_back q xs (in_order ys ++ zs) (ys ++ zs) (find-append_same_front q (in_order ys) ys zs
    (find-in_order q ys)))

-- so it doesn't of each part
in_order-of_parts : {A B : Type 0} (part : B → List (ℕ × ℕ)) (kept : A → List (ℕ × ℕ)) (summarize : B → A)
    → ((x : B) → kept (summarize x) ≡ in_order (part x)) → (qs : List (ℕ × ℕ)) (xs : List B)
    → in_order (qs ++ flat_map kept (map summarize xs)) ≡ in_order (qs ++ flat_map part xs)
in_order-of_parts part kept summarize is qs [] = refl
in_order-of_parts part kept summarize is qs (x ∷ xs) =
    ap (λ (l : List (ℕ × ℕ)). in_order (qs ++ (l ++ flat_map kept (map summarize xs)))) (is x)
    ∙ in_order-append_in_order_append qs (part x) (flat_map kept (map summarize xs))
    ∙ ap in_order (sym (append_assoc qs (part x) (flat_map kept (map summarize xs))))
    ∙ in_order-of_parts part kept summarize is (qs ++ part x) xs
    ∙ ap in_order (append_assoc qs (part x) (flat_map part xs))

-- all, or the lowest
pub shown_pairs-of_parts : {A B : Type 0} (all : Bool) (part : B → List (ℕ × ℕ)) (kept : A → List (ℕ × ℕ))
    (summarize : B → A) → ((x : B) → kept (summarize x) ≡ shown_pairs all (in_order (part x))) → (xs : List B)
    → shown_pairs all (in_order (flat_map kept (map summarize xs)))
    ≡ shown_pairs all (in_order (flat_map part xs))
shown_pairs-of_parts true part kept summarize is xs = in_order-of_parts part kept summarize is [] xs
shown_pairs-of_parts false part kept summarize is xs = lowest-of_parts part kept summarize is [] xs
