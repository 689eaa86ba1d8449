-- Computed, and by the certificate.
use Rattle.std.proofs.Common.{◌≤◌, [], ◌∷◌, refl, arith}
use Rattle.mc_theory.specs.Nets.{interfaces}
use Rattle.mc_theory.specs.Lists.{below}
use Rattle.mc_theory.specs.Flights.Pick.{Handles}
use Rattle.mc_theory.proofs.ExampleCertificates.{line-headline_holds, line-right}
use Rattle.mc_theory.proofs.headline_laws.the_line_is_right.Goals as goal

pub returns-clause-travel : goal.returns-clause-travel
unfolding below interfaces
returns-clause-travel c = refl

pub returns-clause-headline_holds : goal.returns-clause-headline_holds
returns-clause-headline_holds c = line-headline_holds

pub returns-clause-right : goal.returns-clause-right
returns-clause-right c = line-right

pub returns-clause-too_few_named : goal.returns-clause-too_few_named
unfolding below interfaces
returns-clause-too_few_named c = λ h.
    let headline_holds = h 3 (Handles 0 ∷ Handles 0 ∷ []) (omega arith) (omega arith)
    (omega arith, (omega arith, tt)) in
    let few : 3 ≤ 2 = headline_holds.no_more_than_named in
    omega (arith, few)

pub returns-clause-one_step_too_many : goal.returns-clause-one_step_too_many
unfolding below interfaces
returns-clause-one_step_too_many c = λ i j k l m f safe.
    let few : 5 ≤ 4 = safe.steps in
    omega (arith, few)
