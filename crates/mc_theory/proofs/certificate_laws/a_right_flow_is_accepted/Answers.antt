-- By the runs that always take the first copy.
use Rattle.mc_theory.proofs.CompleteRuns.{is_accepted-from_right}
use Rattle.mc_theory.proofs.certificate_laws.a_right_flow_is_accepted.Goals as goal

pub returns : goal.returns
returns c = is_accepted-from_right
