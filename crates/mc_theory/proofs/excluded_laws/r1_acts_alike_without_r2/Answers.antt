-- r1's row sends back, and r2's vif 0 is placed on l1.
use Rattle.std.proofs.Common.{◌≡◌, ℕ, refl, Option, Some, None}
use Rattle.mc_theory.specs.Lists.{below}
use Rattle.mc_theory.specs.Nets.{interfaces}
use Rattle.mc_theory.specs.ExampleNetworks.{onward, sends_back}
use Rattle.mc_theory.proofs.excluded_laws.r1_acts_alike_without_r2.Goals as goal

pub returns-clause-own_row : goal.returns-clause-own_row
returns-clause-own_row c = λ leaves. let same : onward ≡ sends_back = leaves.row 0 refl in absurd cc

pub returns-clause-own_vifs : goal.returns-clause-own_vifs
returns-clause-own_vifs c = λ leaves.
    let none : ◌≡◌ {A = Option ℕ} (Some 1) None = leaves.nothing 1 0 refl in
    absurd cc

pub returns-clause-missed : goal.returns-clause-missed
unfolding below interfaces
returns-clause-missed c = ((refl, refl, refl), λ h. h)
