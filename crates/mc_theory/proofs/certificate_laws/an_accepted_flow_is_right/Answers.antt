-- By safety and delivery.
use Rattle.mc_theory.proofs.ReachedLans.{is_right-from_accepted}
use Rattle.mc_theory.proofs.certificate_laws.an_accepted_flow_is_right.Goals as goal

pub returns : goal.returns
returns c = is_right-from_accepted
