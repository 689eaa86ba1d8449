-- Each condition in turn.
use Rattle.mc_theory.proofs.FirstReason.{first_reason-none_iff_accepted}
use Rattle.mc_theory.proofs.certificate_laws.no_reason_iff_accepted.Goals as goal

pub returns : goal.returns
returns c = first_reason-none_iff_accepted
