-- The wants that no flow answers.
use Rattle.std.proofs.Common.{◌≡◌, ℕ, ◌==◌, ◌<◌, zero, suc, false, List, [], ◌∷◌, ◌++◌, codes, decimal}
use Rattle.std.proofs.Common.{length, arith, refl}
use Rattle.std.specs.Prelude.{slice_get, slice_index_or}
use Rattle.mc_asked.specs.declared.forwarding.RouterState.{RouterState}
use Rattle.mc_asked.specs.Forwarding.{has_state, is_same_state}
use Rattle.mc_asked.specs.ListWants.{Want}
use Rattle.mc_shown.specs.AskedText.{services_text, some_services_text}

-- the state of a router whose number is in the list
pub has_state-at : (state : RouterState) (states : List RouterState) (n : ℕ) (d : RouterState)
    → n < length states → has_state state (slice_get states n)
    ≡ is_same_state state (slice_index_or states n d)
has_state-at state [] n d within = absurd (omega (arith, within))
has_state-at state (own ∷ states) zero d within = refl
has_state-at state (own ∷ states) (suc n) d within = has_state-at state states n d (omega (arith, within))

-- the line of services, if there is one
pub services_text-some_service : (lines : List (Want × List ℕ)) → (length lines == 0) ≡ false
    → codes "asked services " ++ (decimal (length lines) ++ (codes ":"
    ++ (some_services_text lines ++ codes "\n"))) ≡ services_text lines
services_text-some_service [] some = absurd cc
services_text-some_service (line ∷ lines) some = refl
