-- Computed.
use Rattle.std.proofs.Common.{refl, arith}
use Rattle.mc_theory.specs.Lists.{below}
use Rattle.mc_theory.specs.Nets.{interfaces}
use Rattle.mc_theory.specs.ExampleNetworks.{line_with_shortcut}
use Rattle.mc_theory.proofs.ExampleCertificates.{is_hop-onward}
use Rattle.mc_theory.proofs.example_path_laws.other_choices_may_delay_a_first_copy.Goals as goal

pub returns-clause-travel : goal.returns-clause-travel
unfolding below interfaces
returns-clause-travel c = (refl, refl, (refl, refl, (refl, refl, (refl, refl, refl))))

pub returns-clause-late : goal.returns-clause-late
unfolding below interfaces
returns-clause-late c = refl

pub returns-clause-shorter : goal.returns-clause-shorter
returns-clause-shorter c = (refl, is_hop-onward (line_with_shortcut 3) 0 2 2 refl refl refl, refl)

pub returns-clause-gets_through : goal.returns-clause-gets_through
returns-clause-gets_through c = (omega arith, tt)
