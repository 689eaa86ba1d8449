-- l2 carried none.
use Rattle.std.proofs.Common.{◌≡◌, inl, inr, [], ◌∷◌, refl, arith}
use Rattle.mc_theory.specs.Nets.{interfaces}
use Rattle.mc_theory.specs.Lists.{below}
use Rattle.mc_theory.specs.Flights.Pick.{Handles}
use Rattle.mc_theory.proofs.headline_laws.unserved_lan_is_wrong.Goals as goal

pub returns-clause-headline_broken : goal.returns-clause-headline_broken
unfolding below interfaces
returns-clause-headline_broken c = λ named h.
    let headline_holds = h 2 (Handles 0 ∷ Handles 0 ∷ []) (omega arith) (omega arith)
    (omega arith, (omega arith, tt)) in
    let one : 0 ≡ 1 = headline_holds.each_wanting_one tt refl 2 refl in
    omega (arith, one)

pub returns-clause-not_right : goal.returns-clause-not_right
unfolding below interfaces
returns-clause-not_right c = λ h.
    let right = h 2 (Handles 0 ∷ Handles 0 ∷ []) (omega arith) (omega arith)
    (omega arith, (omega arith, tt)) in
    elim (right.served tt refl 2 refl) [
      | inl q ↦ omega (arith, q)
      | inr (inl q) ↦ omega (arith, q)
      | inr (inr z) ↦ z
    ]
