-- Computed.
use Rattle.std.proofs.Common.{refl}
use Rattle.mc_theory.proofs.example_path_laws.only_the_interface_is_taken_out.Goals as goal

pub returns-clause-row : goal.returns-clause-row
returns-clause-row c = refl

pub returns-clause-other_row : goal.returns-clause-other_row
returns-clause-other_row c = refl
