-- By induction over the picks.
use Rattle.mc_theory.proofs.ReachedLans.{is_safe-from_tree}
use Rattle.mc_theory.proofs.certificate_laws.every_run_is_safe.Goals as goal

pub returns : goal.returns
returns c = λ n es net tree t ps low high range. is_safe-from_tree n es t ps net tree low high range
