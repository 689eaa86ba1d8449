-- Steps that may fail.
use Rattle.std.proofs.Common.{◌≡◌, Bool, true, false, cond, Result, Ok, Err}
use Rattle.std.proofs.Common.{refl, sym, ap, ◌∙◌}
pub use Rattle.mc_text.proofs.StepLemmas.{bind_ok, ok_or_ok, ok_injective}
use Rattle.mc_text.proofs.StepLemmas.{if_ok}
use Rattle.mc_text.specs.Steps.{◌>>=◌, map_fault}

module _ {A E : Type 0} where
  -- a test that fails
  pub refusal_ok : (b : Bool) (k : E) (r : Result A E) (y : A) → cond b (Err k) r ≡ Ok y
      → (b ≡ false) × (r ≡ Ok y)
  refusal_ok true k r y e = absurd cc
  refusal_ok false k r y e = (refl, e)

  -- a test that passes
  pub test_ok : (b : Bool) (k : E) (r : Result A E) (y : A) → cond b r (Err k) ≡ Ok y → (b ≡ true)
      × (r ≡ Ok y)
  test_ok true k r y e = (refl, e)
  test_ok false k r y e = absurd cc

  -- a value that is given if it passes a test
  pub checked_ok : (p : A → Bool) (k : E) (x y : A) → cond (p x) (Ok x) (Err k) ≡ Ok y
      → (x ≡ y) × (p y ≡ true)
  checked_ok p k x y e =
      let t = if_ok (p x) k x y e in
      (t.1, ap p (sym t.1) ∙ t.0)

-- a step that succeeds, with its fault converted
pub map_fault_ok : {A E F : Type 0} (as_ours : E → F) (r : Result A E) (x : A)
    → map_fault as_ours r ≡ Ok x → r ≡ Ok x
map_fault_ok as_ours (Ok y) x e = let same : y ≡ x = cc in cc
map_fault_ok as_ours (Err fault) x e = absurd cc

-- if two steps gave a value, the first with its fault converted, the first did
pub located_ok : {A B E F : Type 0} (as_ours : E → F) (r : Result A E) (f : A → Result B F) (y : B)
    → (map_fault as_ours r >>= f) ≡ Ok y → (x : A) × (r ≡ Ok x) × (f x ≡ Ok y)
located_ok as_ours (Ok x) f y e = (x, refl, e)
located_ok as_ours (Err fault) f y e = absurd cc
