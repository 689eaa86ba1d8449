-- Ascending lists of addresses, by the test for membership.
use Rattle.std.proofs.Common.{◌≡◌, ℕ, ◌<◌, Bool, true, false, ◌&&◌, Result, Ok, Err, eqb, List}
use Rattle.std.proofs.Common.{length, get_or, refl, sym, ap, ◌∙◌, arith}
use Rattle.std.specs.Bool.{Decides}
use Rattle.std.specs.Cmp.{nat_cmp_total}
use Rattle.std.specs.FinSet.{contains-from_list, contains-from_list_nat}
use Rattle.std.specs.List.{All, Contains, dedup, filter}
use Rattle.std.specs.List.Sorted.{IsStrictlyIncreasing, IsPermutation, IsBinarySearchResult}
use Rattle.std.specs.Ordering.{nat_cmp}
use Rattle.std.specs.Result.{is_ok, MatchResult}
use Rattle.std.proofs.lemmas.Bool.{eqb-true, eq-eqb}
use Rattle.std.proofs.lemmas.Bool.Decides.{same_from_decides, Decides-by_or, Decides-eqb}
use Rattle.std.proofs.lemmas.Bool.Decides.{Decides-like, nat_tests}
use Rattle.std.proofs.lemmas.List.{get_or_default}
use Rattle.std.proofs.lemmas.List.Elements.{Decides-contains}
use Rattle.std.proofs.lemmas.List.Folds.{list_any_at, list_any_none}
use Rattle.std.proofs.lemmas.List.Kept.{IsStrictlyIncreasing-filter, Contains-dedup_nat}
use Rattle.std.proofs.lemmas.List.Kept.{Contains-from_dedup}
use Rattle.std.proofs.lemmas.List.Sorted.{searched, list_any-IsPermutation}
use Rattle.std.proofs.lemmas.Map.Keys.{sorted_from_strictly_increasing, non_decreasing_from_sorted}
use Rattle.std.proofs.lemmas.Map.Lookups.{btree_set_from_contains, exact_unsigned}
use Rattle.std.proofs.lemmas.Map.Views.{any-filter_same}
use Rattle.std.proofs.lemmas.Result.{MatchResult-weaker}
use Rattle.mc_filter.specs.SourceFilter.{has}

-- the test decides membership
pub Decides-has : (xs : List ℕ) (s : ℕ) → Decides (has xs s) (Contains xs s)
Decides-has xs s =
    Decides-contains xs s (has xs s) (Decides-by_or (λ x. eqb x s) (λ x. x ≡ s) (λ ys. has ys s)
    (λ x. Decides-eqb x s) refl (λ _ _. refl) xs)

-- a filter of an ascending list is ascending
pub filter-ascending : (p : ℕ → Bool) (xs ys : List ℕ) → IsStrictlyIncreasing xs → ys ≡ filter p xs
    → IsStrictlyIncreasing ys × ((s : ℕ) → has ys s ≡ (has xs s && p s))
filter-ascending p xs ys h is =
    rw is (
      IsStrictlyIncreasing-filter p xs h,
      λ s.
          let same = λ (x : ℕ) (e : eqb x s ≡ true). ap p (eqb-true x s e) in
          grind (arith, nat_tests, any-filter_same (λ x. eqb x s) p (p s) same xs),
    )

-- sorting and removing duplicates keep each element
pub has-dedup_sorted : (xs sorted ys : List ℕ) → IsPermutation xs sorted → ys ≡ dedup eqb sorted → (s : ℕ)
    → has ys s ≡ has xs s
has-dedup_sorted xs sorted ys permutation is s =
    rw (is, list_any-IsPermutation (λ x. eqb x s) xs sorted permutation)
    (same_from_decides _ _ (Decides-has (dedup eqb sorted) s)
    (Decides-like _ (Contains-dedup_nat sorted s) (Contains-from_dedup eqb sorted s)
    (Decides-has sorted s)))

-- two ascending lists with the same addresses are equal
pub ascending_lists_equal-from_has : (xs ys : List ℕ) → IsStrictlyIncreasing xs → IsStrictlyIncreasing ys
    → ((s : ℕ) → has xs s ≡ has ys s) → xs ≡ ys
ascending_lists_equal-from_has xs ys h k same =
    let is_key = λ (zs : List ℕ) (s : ℕ).
    sym (contains-from_list nat_cmp_total zs s) ∙ contains-from_list_nat zs s in
    btree_set_from_contains nat_cmp_total (record { keys = xs }) (record { keys = ys })
    (sorted_from_strictly_increasing xs h) (sorted_from_strictly_increasing ys k)
    (λ s. is_key xs s ∙ same s ∙ sym (is_key ys s)) exact_unsigned

-- a place that the search finds has the address, and an address that it doesn't find isn't there
pub binary_search-place : (xs : List ℕ) (s : ℕ) (r : Result ℕ ℕ) → IsStrictlyIncreasing xs
    → IsBinarySearchResult (λ y. nat_cmp y s) xs r
    → MatchResult r (λ i. (i < length xs) × (get_or xs i 0 ≡ s))
    (λ _. All (λ x. eqb x s ≡ false) xs)
binary_search-place xs s r h search =
    let sorted = sorted_from_strictly_increasing xs h in
    MatchResult-weaker r
    (searched xs s r search (λ i j. non_decreasing_from_sorted xs sorted i j 0)) (λ i found. found)
    (λ i missed k d below.
    grind (arith, nat_tests, get_or_default xs k d 0 below, missed.1 k, missed.2 k))

-- the search succeeds exactly if the list has the address
pub binary_search-is_ok : (xs : List ℕ) (s : ℕ) (r : Result ℕ ℕ) → IsStrictlyIncreasing xs
    → IsBinarySearchResult (λ y. nat_cmp y s) xs r → is_ok r ≡ has xs s
binary_search-is_ok xs s (Ok i) h search =
    let found = binary_search-place xs s (Ok i) h search in
    sym (list_any_at (λ x. eqb x s) xs i 0 found.0 (eq-eqb (get_or xs i 0) s found.1))
binary_search-is_ok xs s (Err i) h search =
    sym (list_any_none (λ x. eqb x s) xs (binary_search-place xs s (Err i) h search))
