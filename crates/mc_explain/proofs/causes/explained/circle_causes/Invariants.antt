use Rattle.std.proofs.Common.{◌≡◌, map, take}
use Rattle.mc_explain.specs.Explained.{circle_cause}
use Rattle.mc_explain.proofs.causes.explained.circle_causes.Given as goal

-- each hop so far has its cause; the hops have the last one first, so the causes are reversed after the
-- loop
abbrev pub invariant-loop-hop : goal.invariant-loop-hop
invariant-loop-hop l = l.causes.items ≡ map circle_cause (take l.hop-index l.fn.circle)
