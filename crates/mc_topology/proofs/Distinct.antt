-- Lists without two items of the same key, and items that are added at their end.
use Rattle.std.proofs.Common.{◌≡◌, ℕ, suc, inl, inr, Bool, true, false, ◌||◌, List, []}
use Rattle.std.proofs.Common.{◌∷◌, ◌++◌, length, Some, refl, sym, ap, ◌∙◌, arith}
use Rattle.std.specs.Prelude.{slice_get}
use Rattle.std.specs.Bool.{Decides}
use Rattle.std.specs.List.{list_any}
use Rattle.std.proofs.lemmas.Bool.{false_from_ne_true}
use Rattle.std.proofs.lemmas.List.Folds.{list_any_at}
use Rattle.std.proofs.lemmas.Option.{slice_get_within, get_or_from_slice_get}
use Rattle.mc_text.proofs.Lists.{slice_get-append_front, slice_get-append_next, slice_get-push_cases}
use Rattle.mc_topology.specs.Topology.{AreDistinctBy}

module _ {X K : Type 0} (key : X → K) (test : X → X → Bool)
    (same : (y x : X) → Decides (test y x) (key y ≡ key x)) where
  -- an item of the list has the key of x
  abbrev pub is_key_taken : X → List X → Bool
  is_key_taken x xs = list_any (λ y. test y x) xs

  -- an item of this key among one more: the first, or one of the rest
  item-from_is_key_taken_first : (y : X) (xs : List X) (x : X) (b : Bool) → test y x ≡ b
      → (is_key_taken x xs ≡ true → (i : ℕ) × (z : X) × (slice_get xs i ≡ Some z) × (key z ≡ key x))
      → (b || is_key_taken x xs) ≡ true → (i : ℕ) × (z : X) × (slice_get (y ∷ xs) i ≡ Some z)
      × (key z ≡ key x)
  item-from_is_key_taken_first y xs x true is later e = (0, y, refl, (same y x).0 is)
  item-from_is_key_taken_first y xs x false is later e = let t = later e in (suc t.0, t.1, t.2, t.3)

  -- where the key is taken, an item has it
  item-from_is_key_taken : (xs : List X) (x : X) → is_key_taken x xs ≡ true → (i : ℕ) × (z : X)
      × (slice_get xs i ≡ Some z) × (key z ≡ key x)
  item-from_is_key_taken [] x e = absurd cc
  item-from_is_key_taken (y ∷ xs) x e =
      item-from_is_key_taken_first y xs x (test y x) refl (λ h. item-from_is_key_taken xs x h) e

  -- where an item has the key, the key is taken
  is_key_taken-from_item : (xs : List X) (i : ℕ) (y x : X) → slice_get xs i ≡ Some y → key y ≡ key x
      → is_key_taken x xs ≡ true
  is_key_taken-from_item xs i y x e k =
      list_any_at (λ z. test z x) xs i y (slice_get_within xs i y e)
      (ap (λ (z : X). test z x) (get_or_from_slice_get xs i y y e) ∙ (same y x).1 k)

  -- no items
  pub AreDistinctBy-none : AreDistinctBy key []
  AreDistinctBy-none i j x y at_i at_j k = absurd cc

  -- an item whose key is new is added
  pub AreDistinctBy-push : (xs : List X) (x : X) → AreDistinctBy key xs → is_key_taken x xs ≡ false
      → AreDistinctBy key (xs ++ x ∷ [])
  AreDistinctBy-push xs x distinct new i j a b at_i at_j k =
      elim (slice_get-push_cases xs x i a at_i) [
        | inl before_i ↦ elim (slice_get-push_cases xs x j b at_j) [
          | inl before_j ↦ distinct i j a b before_i before_j k
          | inr last_j ↦ let taken = is_key_taken-from_item xs i a x before_i (k ∙ ap key (sym last_j.1)) in
              absurd cc
        ]
        | inr last_i ↦ elim (slice_get-push_cases xs x j b at_j) [
          | inl before_j ↦ let taken =
              is_key_taken-from_item xs j b x before_j (sym k ∙ ap key (sym last_i.1)) in
              absurd cc
          | inr last_j ↦ last_i.0 ∙ sym last_j.0
        ]
      ]

  -- each item's key is new beside those before it
  pub is_key_taken-from_distinct : (xs ys : List X) (x : X) → AreDistinctBy key (xs ++ x ∷ ys)
      → is_key_taken x xs ≡ false
  is_key_taken-from_distinct xs ys x distinct =
      false_from_ne_true _ (λ taken.
      let (i, y, at, k) = item-from_is_key_taken xs x taken in
      let here : i ≡ length xs =
      distinct i (length xs) y x (slice_get-append_front xs (x ∷ ys) i y at)
      (slice_get-append_next xs ys x) k in
      let within = slice_get_within xs i y at in
      omega (arith, here, within))
