-- The travel at TTL 255 is clean, so its copies make a tree, in which one path leads to the LAN. Packets
-- get through exactly if their TTL is at least its need, and one with the flow's TTL doesn't.
use Rattle.mc_explain.specs.declared.causes.Cause.TheVariants.{LeastTtl}
use Rattle.mc_explain.proofs.CauseLemmas.{causes_hold-all}
use Rattle.mc_explain.proofs.laws.reported_ttl_is_least.Goals as goal

pub returns-clause-least : goal.returns-clause-least
returns-clause-least c = λ d flow lan least t r.
    (causes_hold-all d flow r.flights r.causes r.of_flow (LeastTtl lan least) r.listed).reached t

pub returns-clause-range : goal.returns-clause-range
returns-clause-range c = λ d flow lan least r.
    (let l = causes_hold-all d flow r.flights r.causes r.of_flow (LeastTtl lan least) r.listed in
    (l.above, l.high))
