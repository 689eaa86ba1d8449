use Rattle.mc_explain.proofs.NeedLemmas.{NeedSoFar}
use Rattle.mc_explain.proofs.causes.path.need.Given as goal

-- what the hops so far need, or those that are left if they need more, is what all of them need
abbrev pub invariant-loop-hop : goal.invariant-loop-hop
invariant-loop-hop l = NeedSoFar l.fn.hops l.hop-index l.before l.least
