-- Computed, hop by hop.
use Rattle.std.proofs.Common.{◌≡◌, ℕ, Option, Some, refl, ap, sym, ◌∙◌, arith}
use Rattle.mc_theory.specs.Nets.Row.{Exact}
use Rattle.mc_theory.specs.ExampleNetworks.{onward, diamond}
use Rattle.mc_theory.proofs.ExampleCertificates.{is_hop-onward}
use Rattle.mc_theory.proofs.example_path_laws.diamond_has_an_upper_path.Goals as goal

pub returns-clause-path : goal.returns-clause-path
returns-clause-path c = (
  refl,
  is_hop-onward diamond 1 2 3 refl refl refl,
  (refl, is_hop-onward diamond 0 0 1 refl refl refl, refl),
)

pub returns-clause-other_lan : goal.returns-clause-other_lan
returns-clause-other_lan c = λ h.
    let same : Exact h.incoming h.pairs ≡ onward = sym h.row in
    let vif : h.incoming ≡ 0 = cc in
    let takes : ◌≡◌ {A = Option ℕ} (Some 1) (Some 2) = ap (diamond.placed 2) (sym vif) ∙ h.takes in
    let lan : ◌≡◌ {A = ℕ} 1 2 = cc in
    omega (arith, lan)

pub returns-clause-least_ttl : goal.returns-clause-least_ttl
returns-clause-least_ttl c = refl

pub returns-clause-gets_through : goal.returns-clause-gets_through
returns-clause-gets_through c = (omega arith, (omega arith, tt))

pub returns-clause-too_low : goal.returns-clause-too_low
returns-clause-too_low c = λ h. let p = h.0 in omega (arith, p)
