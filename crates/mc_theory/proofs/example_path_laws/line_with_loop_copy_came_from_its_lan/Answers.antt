-- Computed, hop by hop.
use Rattle.std.proofs.Common.{Some, refl, arith}
use Rattle.mc_theory.specs.Lists.{below}
use Rattle.mc_theory.specs.Nets.{interfaces}
use Rattle.mc_theory.specs.ExampleNetworks.{copy, line_with_loop}
use Rattle.mc_theory.proofs.ExampleCertificates.{is_hop-onward}
use Rattle.mc_theory.proofs.example_path_laws.line_with_loop_copy_came_from_its_lan.Goals as goal

pub returns-clause-from_l0 : goal.returns-clause-from_l0
unfolding below interfaces
returns-clause-from_l0 c = (
  (refl, refl, is_hop-onward (line_with_loop 3) 2 2 0 refl refl refl),
  (λ e. omega (arith, e)),
  (
    copy 2 253 (Some (1, 1)),
    refl,
    (
      (refl, refl, is_hop-onward (line_with_loop 3) 1 1 2 refl refl refl),
      (λ e. omega (arith, e)),
      (
        copy 1 254 (Some (0, 1)),
        refl,
        ((refl, refl, is_hop-onward (line_with_loop 3) 0 0 1 refl refl refl), refl),
      ),
    ),
  ),
)

pub returns-clause-from_l1 : goal.returns-clause-from_l1
unfolding below interfaces
returns-clause-from_l1 c = (
  (refl, refl, is_hop-onward (line_with_loop 3) 2 2 0 refl refl refl),
  (λ e. omega (arith, e)),
  (
    copy 2 253 (Some (1, 1)),
    refl,
    ((refl, refl, is_hop-onward (line_with_loop 3) 1 1 2 refl refl refl), refl),
  ),
)

pub returns-clause-not_by_last_hop : goal.returns-clause-not_by_last_hop
returns-clause-not_by_last_hop c = λ from. let e = from.1 in omega (arith, e)

pub returns-clause-path_part : goal.returns-clause-path_part
unfolding below interfaces
returns-clause-path_part c = (
  (refl, refl, is_hop-onward (line_with_loop 3) 2 2 0 refl refl refl),
  (copy 2 253 (Some (1, 1)), refl, refl),
)

pub returns-clause-all_found : goal.returns-clause-all_found
unfolding below interfaces
returns-clause-all_found c = refl

pub returns-clause-found_until_l1 : goal.returns-clause-found_until_l1
unfolding below interfaces
returns-clause-found_until_l1 c = refl
