-- Lists: the elements at their places, and what holds of each element.
use Rattle.std.proofs.Common.{◌≡◌, ℕ, zero, suc, ◌<◌, ◌⊎◌, inl, inr, Bool, List, [], ◌∷◌, ◌++◌, ◌||◌}
use Rattle.std.proofs.Common.{length, get_or, map, Some, refl, ap, arith, Bor}
use Rattle.std.specs.Prelude.{slice_get}
use Rattle.std.specs.List.{AllByRecursion, list_any}

-- ---- the elements at their places

module _ {X : Type 0} where
  -- an element of the front is at its place in the whole
  pub slice_get-append_front : (xs ys : List X) (i : ℕ) (x : X) → slice_get xs i ≡ Some x
      → slice_get (xs ++ ys) i ≡ Some x
  slice_get-append_front [] ys i x e = absurd cc
  slice_get-append_front (y ∷ xs) ys zero x e = e
  slice_get-append_front (y ∷ xs) ys (suc i) x e = slice_get-append_front xs ys i x e

  -- the element behind the front is at the place after it
  pub slice_get-append_next : (xs ys : List X) (x : X) → slice_get (xs ++ x ∷ ys) (length xs) ≡ Some x
  slice_get-append_next [] ys x = refl
  slice_get-append_next (y ∷ xs) ys x = slice_get-append_next xs ys x

  -- an element of a list that has grown by one is an old one, or the new one
  pub slice_get-push_cases : (xs : List X) (x : X) (i : ℕ) (y : X) → slice_get (xs ++ x ∷ []) i ≡ Some y
      → (slice_get xs i ≡ Some y) ⊎ ((i ≡ length xs) × (x ≡ y))
  slice_get-push_cases [] x zero y e = inr (refl, cc)
  slice_get-push_cases [] x (suc i) y e = absurd cc
  slice_get-push_cases (z ∷ xs) x zero y e = inl e
  slice_get-push_cases (z ∷ xs) x (suc i) y e =
      elim (slice_get-push_cases xs x i y e) [
        | inl before ↦ inl before
        | inr last ↦ inr (omega (arith, last.0), last.1)
      ]

-- ---- what holds of each element

module _ {X : Type 0} (P : X → Type 0) where
  -- what holds of each element of two lists holds of each of both together
  pub AllByRecursion-append : (xs ys : List X) → AllByRecursion P xs → AllByRecursion P ys
      → AllByRecursion P (xs ++ ys)
  AllByRecursion-append [] ys here there = there
  AllByRecursion-append (x ∷ xs) ys here there = (here.0, AllByRecursion-append xs ys here.1 there)

  -- it holds of an element in the middle
  pub AllByRecursion-at_middle : (xs : List X) (y : X) (ys : List X) → AllByRecursion P (xs ++ y ∷ ys)
      → P y
  AllByRecursion-at_middle [] y ys all = all.0
  AllByRecursion-at_middle (x ∷ xs) y ys all = AllByRecursion-at_middle xs y ys all.1

  -- it holds of the element at a place
  pub AllByRecursion-get_or : (xs : List X) (i : ℕ) (d : X) → AllByRecursion P xs → i < length xs
      → P (get_or xs i d)
  AllByRecursion-get_or [] i d all lt = absurd (omega (arith, lt))
  AllByRecursion-get_or (x ∷ xs) zero d all lt = all.0
  AllByRecursion-get_or (x ∷ xs) (suc i) d all lt = AllByRecursion-get_or xs i d all.1 (omega (arith, lt))

-- ---- a test of some element

-- a test of texts behind references is that of the texts
pub list_any-now : (p : List ℕ → Bool) (texts : List (Bor (List ℕ)))
    → list_any (λ t. p t.now) texts ≡ list_any p (map (λ t. t.now) texts)
list_any-now p [] = refl
list_any-now p (t ∷ texts) = ap (λ (b : Bool). p t.now || b) (list_any-now p texts)
