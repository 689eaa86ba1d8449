-- A word's parts around its colons.
use Rattle.std.proofs.Common.{◌≡◌, ℕ, suc, ◌+◌, ◌≤◌, Bool, true, false, cond, ltb, List, [], ◌∷◌}
use Rattle.std.proofs.Common.{length, Option, Some, None, refl, arith}
use Rattle.std.specs.Prelude.{not, position, is_some, unwrap_or}
use Rattle.std.specs.List.{position_or_len, prefix_len}
use Rattle.std.proofs.lemmas.Bool.{ltb-false}

module _ {X : Type 0} (p : X → Bool) where
  -- the front of a list is no longer than the list
  prefix_len-within : (xs : List X) → prefix_len p xs ≤ length xs
  prefix_len-within [] = omega arith
  prefix_len-within (x ∷ xs) =
      let within = prefix_len-within xs in
      elim (p x) as (λ b. cond b (1 + prefix_len p xs) 0 ≤ suc (length xs)) [
        | true ↦ omega arith
        | false ↦ omega arith
      ]

  -- what is there has a value
  pub is_some-some_from : (o : Option ℕ) → is_some o ≡ true → (k : ℕ) × (o ≡ Some k)
  is_some-some_from None e = absurd cc
  is_some-some_from (Some k) e = (k, refl)

  -- a place before the end, or else the end
  unwrap_or-place : (b : Bool) (n len : ℕ) → ltb n len ≡ b → n ≤ len
      → unwrap_or (cond b (Some n) None) len ≡ n
  unwrap_or-place true n len e le = refl
  unwrap_or-place false n len e le = omega (arith, ltb-false n len e)

module _ {X : Type 0} (p : X → Bool) where
  -- the place of the first element that passes, or the end
  pub unwrap_or-position : (xs : List X) → unwrap_or (position p xs) (length xs) ≡ position_or_len p xs
  unwrap_or-position xs = unwrap_or-place p (ltb (position_or_len p xs) (length xs)) (position_or_len p xs)
      (length xs) refl (prefix_len-within (λ x. not (p x)) xs)
