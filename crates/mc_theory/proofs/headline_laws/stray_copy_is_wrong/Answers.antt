-- A copy strays.
use Rattle.std.proofs.Common.{◌≡◌, [], ◌∷◌, refl, arith}
use Rattle.mc_theory.specs.Nets.{interfaces}
use Rattle.mc_theory.specs.Lists.{below}
use Rattle.mc_theory.specs.Flights.Pick.{Handles}
use Rattle.mc_theory.proofs.headline_laws.stray_copy_is_wrong.Goals as goal

pub returns-clause-headline_broken : goal.returns-clause-headline_broken
unfolding below interfaces
returns-clause-headline_broken c = λ named h.
    let headline_holds = h 3 (Handles 0 ∷ Handles 0 ∷ []) (omega arith) (omega arith)
    (omega arith, (omega arith, tt)) in
    let none : (1, 2) ∷ [] ≡ [] = headline_holds.none_leaves in
    absurd cc

pub returns-clause-not_right : goal.returns-clause-not_right
unfolding below interfaces
returns-clause-not_right c = λ h.
    let right = h 3 (Handles 0 ∷ Handles 0 ∷ []) (omega arith) (omega arith)
    (omega arith, (omega arith, tt)) in
    let none : (1, 2) ∷ [] ≡ [] = right.clean.none_stray in
    absurd cc

pub returns-clause-open_row : goal.returns-clause-open_row
unfolding below interfaces
returns-clause-open_row c = refl

pub returns-clause-open_row_headline_broken : goal.returns-clause-open_row_headline_broken
unfolding below interfaces
returns-clause-open_row_headline_broken c = λ named h.
    let headline_holds = h 3 (Handles 0 ∷ Handles 0 ∷ []) (omega arith) (omega arith)
    (omega arith, (omega arith, tt)) in
    let none : (1, 0) ∷ [] ≡ [] = headline_holds.none_leaves in
    absurd cc
