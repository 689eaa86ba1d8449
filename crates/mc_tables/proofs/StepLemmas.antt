-- What follows from steps that succeeded.
use Rattle.std.proofs.Common.{◌≡◌, ℕ, Bool, true, false, Result, Ok, Err}
use Rattle.std.proofs.Common.{refl}
use Rattle.mc_tables.specs.declared.fault.TableFaultKind.{TableFaultKind}
use Rattle.mc_text.specs.Steps.{◌>>=◌}
use Rattle.mc_tables.specs.Steps.{demand, at_line}

-- a test whose step succeeded has passed
pub demand-ok : {E : Type 0} (b : Bool) (d : E) (u : Unit {0}) → demand b d ≡ Ok u → b ≡ true
demand-ok true d u e = refl
demand-ok false d u e = absurd cc

-- and the step after it succeeded too
pub demand-bind_ok : {B E : Type 0} (b : Bool) (d : E) (f : Unit {0} → Result B E) (y : B)
    → (demand b d >>= f) ≡ Ok y → (b ≡ true) × (f tt ≡ Ok y)
demand-bind_ok true d f y e = (refl, e)
demand-bind_ok false d f y e = absurd cc

-- the number of a line changes no value
pub at_line-ok : {A : Type 0} (n : ℕ) (r : Result A TableFaultKind) (x : A) → at_line n r ≡ Ok x
    → r ≡ Ok x
at_line-ok n (Ok y) x e = cc
at_line-ok n (Err k) x e = absurd cc
