-- The word that is read where clap finds one or none.
use Rattle.std.proofs.Common.{◌≡◌, ℕ, List, [], Option, Some, None, unwrap_or, ap, ◌∙◌}
use Rattle.std.specs.Option.{option_map}
use Rattle.std.specs.Borrow.{Bor}

-- the found word, or the empty one where nothing is found
pub unwrap_or-now : (read : Option (Bor (List ℕ))) (other : Bor (List ℕ)) (found : Option (List ℕ))
    → option_map (λ word. word.now) read ≡ found → other.now ≡ []
    → (unwrap_or read other).now ≡ unwrap_or found []
unwrap_or-now None other found same empty = empty ∙ ap (λ o. unwrap_or o []) same
unwrap_or-now (Some word) other found same empty = ap (λ o. unwrap_or o []) same
