-- Computed, and by the certificate of the open diamond.
use Rattle.std.proofs.Common.{◌≤◌, inl, [], ◌∷◌, map, refl, arith}
use Rattle.mc_theory.specs.Nets.{interfaces}
use Rattle.mc_theory.specs.Lists.{Distinct, below}
use Rattle.mc_theory.specs.Flights.Pick.{Handles}
use Rattle.mc_theory.proofs.ExampleCertificates.{diamond-headline_holds}
use Rattle.mc_theory.proofs.headline_laws.twice_served_lan_is_wrong.Goals as goal

pub returns-clause-headline_holds : goal.returns-clause-headline_holds
returns-clause-headline_holds c = diamond-headline_holds

pub returns-clause-travel : goal.returns-clause-travel
unfolding below interfaces
returns-clause-travel c = refl

-- r1 to r4 each handle what came to them
pub returns-clause-headline_broken : goal.returns-clause-headline_broken
unfolding below interfaces
returns-clause-headline_broken c = λ named h.
    let headline_holds = h 3 (map Handles (0 ∷ 0 ∷ 0 ∷ 0 ∷ [])) (omega arith) (omega arith)
    (omega arith, (omega arith, (omega arith, (omega arith, tt)))) in
    let one : 2 ≤ 1 = headline_holds.no_two_copies 3 in
    omega (arith, one)

pub returns-clause-not_right : goal.returns-clause-not_right
unfolding below interfaces
returns-clause-not_right c = λ h.
    let right = h 3 (map Handles (0 ∷ 0 ∷ 0 ∷ 0 ∷ [])) (omega arith) (omega arith)
    (omega arith, (omega arith, (omega arith, (omega arith, tt)))) in
    let once : Distinct (0 ∷ 1 ∷ 2 ∷ 3 ∷ 3 ∷ []) = right.clean.once in
    once.1.1.1.0 (inl refl)

pub returns-clause-broken_in_flight : goal.returns-clause-broken_in_flight
unfolding below interfaces
returns-clause-broken_in_flight c = λ named h.
    let headline_holds = h 3 (Handles 0 ∷ []) (omega arith) (omega arith) (omega arith, tt) in
    let one : 2 ≤ 1 = headline_holds.no_two_copies 0 in
    omega (arith, one)
