-- A run with one pick more.
use Rattle.std.proofs.Common.{◌≡◌, ◌<◌, ◌↔◌, List, [], ◌∷◌, ◌++◌, length, refl}
use Rattle.mc_theory.specs.Nets.{Net}
use Rattle.mc_theory.specs.Flights.{Flight, Pick, InRange, apply_pick, picked_index, run}

-- the last pick is applied where the others lead,
pub run-push : (n : Net) (ps : List Pick) (p : Pick) (f : Flight)
    → run n (ps ++ p ∷ []) f ≡ apply_pick n p (run n ps f)
run-push n [] p f = refl
run-push n (q ∷ ps) p f = run-push n ps p (apply_pick n q f)

-- and is in range there
pub in_range-push : (n : Net) (ps : List Pick) (p : Pick) (f : Flight)
    → InRange n (ps ++ p ∷ []) f ↔ (InRange n ps f × (picked_index p < length (run n ps f).waiting))
in_range-push n [] p f = ((λ h. (tt, h.0)), (λ h. (h.1, tt)))
in_range-push n (q ∷ ps) p f =
    let rest = in_range-push n ps p (apply_pick n q f) in
    ((λ h. (let k = rest.0 h.1 in ((h.0, k.0), k.1))), (λ h. (h.0.0, rest.1 (h.0.1, h.1))))
