-- Keys that differ, in a list that grows at its end.
use Rattle.std.proofs.Common.{◌≡◌, Bool, false, List, [], ◌∷◌, ◌++◌, Option, Some, None, refl, ◌∙◌}
use Rattle.std.specs.List.{IsDistinct, list_any, cons_option}
use Rattle.std.specs.Cmp.{IsEquivalence}
use Rattle.std.proofs.lemmas.List.{append-nil}
use Rattle.std.proofs.lemmas.Bool.{or_from}
use Rattle.std.proofs.lemmas.Map.Keys.{IsDistinct-head, IsDistinct-tail, IsDistinct-push}
use Rattle.mc_text.proofs.Lists.{AllByRecursion-at_middle}
use Rattle.mc_tables.specs.TableLines.{is_among}

module _ {K : Type 0} {same : K → K → Bool} (laws : IsEquivalence same) where
  -- a key in the middle is none of those before it
  pub list_any-distinct_middle : (xs : List K) (y : K) (ys : List K) → IsDistinct same (xs ++ y ∷ ys)
      → list_any (same y) xs ≡ false
  list_any-distinct_middle [] y ys distinct = refl
  list_any-distinct_middle (x ∷ xs) y ys distinct =
      let apart = AllByRecursion-at_middle (λ z. same x z ≡ false) xs y ys
      (IsDistinct-head same x (xs ++ y ∷ ys) distinct) in
      or_from (same y x) (list_any (same y) xs) (laws.symm y x ∙ apart)
      (list_any-distinct_middle xs y ys (IsDistinct-tail same x (xs ++ y ∷ ys) distinct))

  -- keys that differ still differ with one that is new, if there is one
  pub is_distinct-push_key : (xs : List K) (key : Option K) → IsDistinct same xs
      → is_among same key xs ≡ false → IsDistinct same (xs ++ cons_option key [])
  is_distinct-push_key xs None distinct new = rw append-nil distinct
  is_distinct-push_key xs (Some y) distinct new = IsDistinct-push laws xs y distinct new

  -- a key in the middle, if there is one, is new
  pub is_among-distinct_before : (xs : List K) (key : Option K) (ys : List K)
      → IsDistinct same (xs ++ cons_option key ys) → is_among same key xs ≡ false
  is_among-distinct_before xs None ys distinct = refl
  is_among-distinct_before xs (Some y) ys distinct = list_any-distinct_middle xs y ys distinct
