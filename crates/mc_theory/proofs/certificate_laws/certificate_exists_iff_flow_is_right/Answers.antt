-- By the laws of its two directions.
use Rattle.mc_theory.proofs.CompleteRuns.{is_accepted-from_right}
use Rattle.mc_theory.proofs.ReachedLans.{is_right-from_accepted}
use Rattle.mc_theory.proofs.certificate_laws.certificate_exists_iff_flow_is_right.Goals
    as goal

pub returns : goal.returns
returns c = λ n net low high. (
  (λ h. is_right-from_accepted n h.0 net low h.1),
  is_accepted-from_right n net low high,
)
