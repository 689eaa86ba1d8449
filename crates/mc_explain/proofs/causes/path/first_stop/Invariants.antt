use Rattle.mc_explain.proofs.NeedLemmas.{ThroughSoFar}
use Rattle.mc_explain.proofs.causes.path.first_stop.Given as goal

-- the packet got through the hops so far, which are at the end of the list, with this TTL left
abbrev pub invariant-loop-before : goal.invariant-loop-before
invariant-loop-before l = ThroughSoFar l.fn.ttl l.fn.hops l.before l.left
