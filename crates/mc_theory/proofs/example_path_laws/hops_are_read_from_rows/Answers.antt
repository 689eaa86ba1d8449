-- Computed.
use Rattle.std.proofs.Common.{refl}
use Rattle.mc_theory.proofs.example_path_laws.hops_are_read_from_rows.Goals as goal

pub returns-clause-lan : goal.returns-clause-lan
returns-clause-lan c = refl

pub returns-clause-threshold : goal.returns-clause-threshold
returns-clause-threshold c = refl

pub returns-clause-no_row : goal.returns-clause-no_row
returns-clause-no_row c = refl
