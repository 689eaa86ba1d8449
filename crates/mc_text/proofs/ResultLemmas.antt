-- Facts of a result as facts of its `ok()`.
use Rattle.std.proofs.Common.{◌≡◌, Some, None, Result, MatchResult, arith}
use Rattle.std.specs.Result.{result_ok}

-- what holds of an `Err`, if `ok()` is none, unless it is bad
pub result_ok-none_not_bad : {S E : Type 0} (P : S → Type 0) (Q : E → Type 0) (bad : Type 0) (r : Result S E)
    → result_ok r ≡ None → MatchResult r P (λ e. ¬ bad × Q e) → ¬ bad
result_ok-none_not_bad P Q bad r none h = grind arith

-- what holds of an `Ok`, if `ok()` is x
pub result_ok-some : {S E : Type 0} (P : S → Type 0) (Q : E → Type 0) (r : Result S E) (x : S)
    → Some x ≡ result_ok r → MatchResult r P Q → P x
result_ok-some P Q r x some h = grind arith

-- what holds of an `Err`, if `ok()` is none
pub result_ok-none : {S E : Type 0} (P : S → Type 0) (Q : Type 0) (r : Result S E) → result_ok r ≡ None
    → MatchResult r P (λ _. Q) → Q
result_ok-none P Q r none h = grind arith
