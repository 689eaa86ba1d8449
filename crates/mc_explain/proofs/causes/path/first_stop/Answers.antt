-- The packet got through all hops before this one, and what is left of its TTL isn't above the hop's
-- threshold.
use Rattle.std.proofs.Common.{◌≡◌, ap, arith}
use Rattle.mc_theory.specs.Paths.{Hop}
use Rattle.mc_explain.proofs.NeedLemmas.{stopping_hop-there}
use Rattle.mc_explain.proofs.causes.path.first_stop.Goals as goal

pub returns-then-left-hop : goal.returns-then-left-hop
returns-then-left-hop c =
    let h = c.index-hops-place.result in
    let same : c.hop.inside.threshold ≡ h.threshold = ap (λ (g : Hop). g.threshold) c.hop.view_is in
    let stops = c.if-left-hop.true in
    stopping_hop-there c.args.ttl c.args.hops.now c.loop-before.before c.loop-before.left h
    c.loop-before.invariant c.loop-before-test.true c.index-hops-place.is (omega (arith, stops, same))
