-- By induction on the rank.
use Rattle.mc_theory.proofs.ReachedLans.{is_delivered-from_lossless_run}
use Rattle.mc_theory.proofs.certificate_laws.every_complete_run_delivers.Goals as goal

pub returns : goal.returns
returns c = λ n es net tree t ps low high range whole done.
    is_delivered-from_lossless_run n es t ps net tree low high range whole done
