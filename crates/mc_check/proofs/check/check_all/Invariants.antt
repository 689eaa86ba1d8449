use Rattle.mc_check.proofs.CheckAllLemmas.{AreVerdictsSoFar}
use Rattle.mc_check.proofs.check.check_all.Given as goal

-- the flows so far have a verdict each, which is correct in all respects
abbrev pub invariant-loop-flow : goal.invariant-loop-flow
invariant-loop-flow l = AreVerdictsSoFar l.fn.domain l.fn.certificate l.flow l.verdicts.items
