-- Each flow's verdict is made from the first reason against its list, as that of `check_flow` is.
use Rattle.std.proofs.Common.{◌≡◌, ◌+◌, ◌<◌, ◌++◌, ◌∷◌, [], length, sym, subst, arith}
use Rattle.mc_check.proofs.CheckAllLemmas.{AreVerdictsSoFar, verdicts_so_far-more}
use Rattle.mc_check.proofs.CheckAllLemmas.{is_correct_verdict-verdict_by}
use Rattle.mc_check.proofs.check.check_all.Goals as goal

-- The verdict that is added is correct, since it is made from the first reason against the flow's list. The
-- earlier ones stay as they are.
pub loop-flow-preserved : goal.loop-flow-preserved
loop-flow-preserved c =
    let d = c.args.domain.now in
    let lists = c.args.certificate.now in
    let k = c.loop-flow.flow in
    let es = c.flow.result.reached.now in
    let v = c.verdict_by.result in
    let within : k < length d.topology.flows = omega
    (arith, c.loop-flow-test.true, c.flows-flow-end.ensures, c.requires.flows) in
    let new : c.push.new.self.items ≡ c.loop-flow.verdicts.items ++ v ∷ [] =
    c.in_ok-push.ensures.items in
    subst (λ vs. AreVerdictsSoFar d lists (k + 1) vs) (sym new)
    (verdicts_so_far-more d lists k c.loop-flow.verdicts.items es v c.loop-flow.invariant
    c.flow.ensures.reached
    (is_correct_verdict-verdict_by d k es c.in_ok-reason.reason v c.topology-topology.ensures.rules within
    c.in_ok-reason.ensures.ok c.verdict_by.ensures.value))

-- At the end a verdict is there for every flow, and each is correct in all respects, of which this and each
-- of the following clauses is one.
pub returns-clause-accepted : goal.returns-clause-accepted
returns-clause-accepted c =
    λ flow es v at got. (c.loop-flow.invariant.each flow es v at got).accepted

pub returns-clause-copies : goal.returns-clause-copies
returns-clause-copies c = λ flow es v at got. (c.loop-flow.invariant.each flow es v at got).copy_count

pub returns-clause-reason : goal.returns-clause-reason
returns-clause-reason c = λ flow es v at got. (c.loop-flow.invariant.each flow es v at got).reason

pub returns-clause-safe : goal.returns-clause-safe
returns-clause-safe c = λ flow es v at got. (c.loop-flow.invariant.each flow es v at got).safe

pub returns-clause-delivered : goal.returns-clause-delivered
returns-clause-delivered c = λ flow es v at got.
    (c.loop-flow.invariant.each flow es v at got).delivered

pub returns-clause-right : goal.returns-clause-right
returns-clause-right c = λ flow es v at got. (c.loop-flow.invariant.each flow es v at got).right

pub returns-clause-headline : goal.returns-clause-headline
returns-clause-headline c =
    λ flow es v at got. (c.loop-flow.invariant.each flow es v at got).headline
