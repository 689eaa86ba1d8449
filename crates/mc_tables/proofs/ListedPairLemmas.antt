-- Listed pairs that are stored as numbers.
use Rattle.std.proofs.Common.{◌≡◌, ℕ, ◌<◌, false, List, [], ◌∷◌, length, get_or, map, Option}
use Rattle.std.proofs.Common.{None, Some, sym, ap, ◌∙◌, inl, inr, arith, subst}
use Rattle.std.specs.Prelude.{◌↔◌, IfNone}
use Rattle.std.specs.Cmp.{nat_cmp_total}
use Rattle.std.specs.FinSet as set
use Rattle.std.specs.List.{AllByRecursion, Contains, IsDistinct, list_any}
use Rattle.std.specs.List.Sorted.{IsStrictlyIncreasing}
use Rattle.std.specs.Ordering.{eq_by_cmp, nat_cmp}
use Rattle.std.proofs.lemmas.Bool.{cases_Bool, true≢false}
use Rattle.std.proofs.lemmas.Cmp.{eq_by_cmp_equiv}
use Rattle.std.proofs.lemmas.List.{get_or-map, length-map}
use Rattle.std.proofs.lemmas.List.Elements.{Contains-get_or}
use Rattle.std.proofs.lemmas.List.Folds.{list_any_none}
use Rattle.std.proofs.lemmas.Map.Keys.{IsDistinct-from_sorted, IsDistinct-head, IsDistinct-tail}
use Rattle.std.proofs.lemmas.Map.Keys.{sorted_from_strictly_increasing}
use Rattle.std.proofs.lemmas.Map.Views.{Contains-from_any, list_any-from_Contains}
use Rattle.mc_text.specs.Pair.{pair_of}
use Rattle.mc_text.proofs.PairLemmas.{pair_of-injective}
use Rattle.mc_tables.specs.CacheTable.{key_cmp, same_key}
use Rattle.mc_tables.specs.Summary.{keys_for_every_source}
use Rattle.mc_tables.proofs.CacheLemmas.{same_key-equivalence, key_cmp-total}
use Rattle.mc_tables.proofs.CacheMapLemmas.{key_cmp-antisymmetric}
use Rattle.mc_tables.proofs.UnlistedRowLemmas.{same_key-equal}

-- a pair whose number is none of the numbers is none of the pairs
list_any-missing_pair : (ns : List ℕ) (n : ℕ) (key : ℕ × ℕ) → pair_of n ≡ key → ¬ Contains ns n
    → list_any (same_key key) (map pair_of ns) ≡ false
list_any-missing_pair ns n key is missed =
    list_any_none (same_key key) (map pair_of ns) (λ k d lt.
    elim (cases_Bool (same_key key (get_or (map pair_of ns) k d))) [
      | inl same ↦ absurd (
          let within : k < length ns = omega (arith, length-map ns pair_of, lt) in
          let own : pair_of (get_or ns k n) ≡ pair_of n =
          sym (get_or-map pair_of ns k n d within)
          ∙ sym (same_key-equal key (get_or (map pair_of ns) k d) same) ∙ sym is in
          missed (k, within, pair_of-injective (get_or ns k n) n own))
      | inr other ↦ other
    ])

pub if_none-missing_pair : (ns : List ℕ) (n : ℕ) (key : ℕ × ℕ) (place : Option ℕ) → pair_of n ≡ key
    → IfNone place (¬ Contains ns n) → IfNone place (list_any (same_key key) (map pair_of ns) ≡ false)
if_none-missing_pair ns n key (Some i) is missed = tt
if_none-missing_pair ns n key None is missed = list_any-missing_pair ns n key is missed

-- numbers that differ are of pairs that differ
pair_of-different : (n : ℕ) (ns : List ℕ) → AllByRecursion (λ m. eq_by_cmp nat_cmp n m ≡ false) ns
    → AllByRecursion (λ k. same_key (pair_of n) k ≡ false) (map pair_of ns)
pair_of-different n [] all = tt
pair_of-different n (m ∷ ns) all = (
  elim (cases_Bool (same_key (pair_of n) (pair_of m))) [
    | inl same ↦ absurd (true≢false (sym ((eq_by_cmp_equiv nat_cmp_total).refl n)
        ∙ ap (eq_by_cmp nat_cmp n)
        (pair_of-injective n m (same_key-equal (pair_of n) (pair_of m) same)) ∙ all.0))
    | inr other ↦ other
  ],
  pair_of-different n ns all.1,
)

pair_of-distinct : (ns : List ℕ) → IsDistinct (eq_by_cmp nat_cmp) ns
    → IsDistinct same_key (map pair_of ns)
unfolding IsDistinct
pair_of-distinct [] distinct = tt
pair_of-distinct (n ∷ ns) distinct = (
  pair_of-different n ns (IsDistinct-head (eq_by_cmp nat_cmp) n ns distinct),
  pair_of-distinct ns (IsDistinct-tail (eq_by_cmp nat_cmp) n ns distinct),
)

pub pair_of-increasing_distinct : (ns : List ℕ) → IsStrictlyIncreasing ns
    → IsDistinct same_key (map pair_of ns)
pair_of-increasing_distinct ns up =
    pair_of-distinct ns (IsDistinct-from_sorted nat_cmp ns (sorted_from_strictly_increasing ns up))

-- ---- which pairs they are

-- lists of the same pairs are the same set
pub same_set : (xs ys : List (ℕ × ℕ)) → ((q : ℕ × ℕ) → Contains xs q ↔ Contains ys q)
    → set.from_list {R = key_cmp} xs ≡ set.from_list ys
same_set xs ys same =
    set.same_set key_cmp-total key_cmp-antisymmetric (set.from_list xs) (set.from_list ys) (λ q.
    set.contains-from_list key_cmp-total xs q
    ∙ elim (cases_Bool (list_any (same_key q) xs)) [
      | inl some ↦
          some ∙ sym (list_any-from_Contains same_key-equivalence q ys
          ((same q).0 (Contains-from_any same_key-equal q xs some)))
      | inr none ↦ elim (cases_Bool (list_any (same_key q) ys)) [
        | inl some ↦ absurd (
            let there = list_any-from_Contains same_key-equivalence q xs
            ((same q).1 (Contains-from_any same_key-equal q ys some)) in
            cc)
        | inr neither ↦ none ∙ sym neither
      ]
    ]
    ∙ sym (set.contains-from_list key_cmp-total ys q))

-- if these elements are among others, what they are mapped to is among what those are mapped to
contains-map : {A : Type 0} (f : A → ℕ × ℕ) (d : A) (xs ys : List A)
    → ((x : A) → Contains xs x → Contains ys x) → (q : ℕ × ℕ)
    → Contains (map f xs) q → Contains (map f ys) q
contains-map f d xs ys same q among =
    let within : among.0 < length xs = omega (arith, length-map xs f, among.1) in
    let x = get_or xs among.0 d in
    let own : f x ≡ q = sym (get_or-map f xs among.0 d q within) ∙ among.2 in
    let there = same x (Contains-get_or xs among.0 d within) in (
      there.0,
      omega (arith, length-map ys f, there.1),
      get_or-map f ys there.0 x q there.1 ∙ ap f there.2 ∙ own,
    )

-- the pairs of the same numbers are the same
pub contains-map_pair_of : (kept made : List ℕ) (pairs : List (ℕ × ℕ)) → map pair_of made ≡ pairs
    → ((n : ℕ) → Contains kept n ↔ Contains made n)
    → (q : ℕ × ℕ) → Contains (map pair_of kept) q ↔ Contains pairs q
contains-map_pair_of kept made pairs is same q = (
  λ among. subst (λ (ps : List (ℕ × ℕ)). Contains ps q) is
      (contains-map pair_of 0 kept made (λ n. (same n).0) q among),
  λ among. contains-map pair_of 0 made kept (λ n. (same n).1) q
      (subst (λ (ps : List (ℕ × ℕ)). Contains ps q) (sym is) among),
)

-- ---- rows for every source

-- the same pairs have the same groups
pub from_list-same_groups : (kept pairs made every : List (ℕ × ℕ))
    → ((q : ℕ × ℕ) → Contains kept q ↔ Contains pairs q) → made ≡ keys_for_every_source pairs
    → ((q : ℕ × ℕ) → Contains every q ↔ Contains made q)
    → set.from_list {R = key_cmp} every ≡ set.from_list (keys_for_every_source kept)
from_list-same_groups kept pairs made every same is all =
    let group : ℕ × ℕ → ℕ × ℕ = λ key. (0, key.1) in
    same_set every made all
    ∙ ap (λ (l : List (ℕ × ℕ)). set.from_list {R = key_cmp} l) is
    ∙ ap (λ (s : set.FinSet key_cmp). set.insert s (0, 0))
    (same_set (map group pairs) (map group kept) (λ q. (
      contains-map group (0, 0) pairs kept (λ p. (same p).1) q,
      contains-map group (0, 0) kept pairs (λ p. (same p).0) q,
    )))
