-- Listed keys, as a set and in order.
use Rattle.std.proofs.Common.{◌≡◌, ℕ, true, false, List, length, get_or, Option, Some}
use Rattle.std.proofs.Common.{None, Result, Ok, Err, refl, sym, ap, ◌∙◌, arith, inl, inr}
use Rattle.std.specs.Prelude.{◌==◌, ◌&&◌, is_ok}
use Rattle.std.specs.FinSet as set
use Rattle.std.specs.List.{All}
use Rattle.std.specs.List.Sorted.{IsPermutation, IsSorted, IsSearchInRange, IsBinarySearchResult}
use Rattle.std.specs.Cmp.{IsTotalOrder}
use Rattle.std.specs.FinMap.{IsAntisymmetric}
use Rattle.std.specs.Ordering.{eq_by_cmp, is_eq}
use Rattle.std.specs.declared.cmp.Ordering.{Ordering}
use Rattle.std.proofs.lemmas.Bool.{cases_lt}
use Rattle.std.proofs.lemmas.Bool.Decides.{nat_tests}
use Rattle.std.proofs.lemmas.Cmp.{eq_by_cmp_equiv}
use Rattle.std.proofs.lemmas.List.Folds.{list_any_at, list_any_none}
use Rattle.std.proofs.lemmas.List.Sorted.{list_any-IsPermutation, searchable_from_sorted}
use Rattle.mc_tables.specs.CacheTable.{same_key, key_of, RowValue}
use Rattle.mc_tables.specs.ListedRows.{Listed, is_listed, is_kept_key, is_kept, listed_set, set_has_key}
use Rattle.mc_tables.specs.ListedRows.{is_key_kept_by_set, is_kept_by_set}
use Rattle.mc_tables.proofs.CacheLemmas.{key_cmp-total}
use Rattle.mc_tables.proofs.UnlistedRowLemmas.{list_any-same_tests}

-- ---- as a set

-- two tests for one key
same_key-components : (key k : ℕ × ℕ) → same_key key k ≡ ((k.0 == key.0) && (k.1 == key.1))
same_key-components key k = grind (arith, nat_tests)

-- the set has the keys that are listed
pub set_has_key-listed_set : (listed : Listed) (key : ℕ × ℕ)
    → set_has_key (listed_set listed) key ≡ is_listed listed key
set_has_key-listed_set None key = refl
set_has_key-listed_set (Some keys) key =
    set.contains-from_list key_cmp-total keys key
    ∙ list_any-same_tests (same_key key) (λ k. (k.0 == key.0) && (k.1 == key.1)) keys
    (same_key-components key)

-- so the same rows are kept
is_key_kept_by_set-listed_set : (listed : Listed) (own : Option (ℕ × ℕ))
    → is_key_kept_by_set (listed_set listed) own ≡ is_kept_key listed own
is_key_kept_by_set-listed_set listed None = refl
is_key_kept_by_set-listed_set listed (Some key) = set_has_key-listed_set listed key

pub is_kept_by_set-listed_set : (listed : Listed) (row : RowValue)
    → is_kept_by_set (listed_set listed) row ≡ is_kept listed row
is_kept_by_set-listed_set listed row = is_key_kept_by_set-listed_set listed (key_of row)

-- ---- in order

module _ {X : Type 0} {cmp : X → X → Ordering} (total : IsTotalOrder cmp) where
  -- in another order they are the same set
  pub from_list-permutation : IsAntisymmetric cmp → (xs sorted : List X) → IsPermutation xs sorted
      → set.from_list {R = cmp} sorted ≡ set.from_list xs
  from_list-permutation ties xs sorted moved =
      set.same_set total ties (set.from_list sorted) (set.from_list xs) (λ q.
      set.contains-from_list total sorted q
      ∙ sym (list_any-IsPermutation (eq_by_cmp cmp q) xs sorted moved)
      ∙ sym (set.contains-from_list total xs q))

  -- a search finds what the set has
  pub is_ok-binary_search : (xs : List X) (x : X) (r : Result ℕ ℕ) → IsSorted cmp xs
      → IsSearchInRange r (length xs) → IsBinarySearchResult (λ y. cmp y x) xs r
      → is_ok r ≡ set.contains (set.from_list {R = cmp} xs) x
  is_ok-binary_search xs x (Ok i) up within found =
      let here : eq_by_cmp cmp x (get_or xs i x) ≡ true =
      (eq_by_cmp_equiv total).symm x (get_or xs i x) ∙ ap is_eq (found x) in
      sym (list_any_at (eq_by_cmp cmp x) xs i x within here)
      ∙ sym (set.contains-from_list total xs x)
  is_ok-binary_search xs x (Err i) up within found =
      let split = found (searchable_from_sorted total (λ (y : X). y) xs x up) in
      let none : All (λ y. eq_by_cmp cmp x y ≡ false) xs = λ k d lt.
      (eq_by_cmp_equiv total).symm x (get_or xs k d) ∙ elim (cases_lt k i) [
        | inl below ↦ ap is_eq (split.0 k d (omega arith) below)
        | inr above ↦ ap is_eq (split.1 k d above lt)
      ] in
      sym (list_any_none (eq_by_cmp cmp x) xs none)
      ∙ sym (set.contains-from_list total xs x)
