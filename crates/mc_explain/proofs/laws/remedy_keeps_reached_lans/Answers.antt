-- The LAN's first copy came without the interface. Copies are handled in the order in which they were sent,
-- so it came over no more hops than the second: a path over the interface can go on from the first copy
-- instead, with no less of the TTL left.
use Rattle.std.proofs.Common.{ℕ}
use Rattle.mc_theory.specs.Paths.{take_out}
use Rattle.mc_forward.specs.Domains.{DomainValue, net_of}
use Rattle.mc_explain.specs.CauseFacts.{IsRemedyForTtl, ReachesAsMuch}
use Rattle.mc_explain.specs.declared.causes.Cause.TheVariants.{TakeOut}
use Rattle.mc_forward.proofs.DomainLemmas.{is_net-net_of}
use Rattle.mc_explain.proofs.CauseLemmas.{causes_hold-all}
use Rattle.mc_explain.proofs.RemedyLemmas.{carries_as_much-from_reached, are_not_sent_by-run}
use Rattle.mc_explain.proofs.laws.remedy_keeps_reached_lans.Goals as goal

-- It sent the second copy, so its router's row has it.
pub returns-clause-sends : goal.returns-clause-sends
returns-clause-sends c = λ d flow lan router vif least r.
    (causes_hold-all d flow r.flights r.causes r.of_flow (TakeOut lan router vif least) r.listed).sends

-- The path of the LAN's first copy doesn't use it.
pub returns-clause-stays : goal.returns-clause-stays
returns-clause-stays c = λ d flow lan router vif least r.
    (causes_hold-all d flow r.flights r.causes r.of_flow (TakeOut lan router vif least) r.listed).stays

-- A path over the interface goes on from the LAN's first copy in its place.
pub returns-clause-reached : goal.returns-clause-reached
returns-clause-reached c = λ d flow lan router vif least m r.
    (causes_hold-all d flow r.flights r.causes r.of_flow (TakeOut lan router vif least) r.listed).reached m

-- a packet whose TTL is enough for the path of the first copy gets as far from there
reaches_as_much-from_remedy : (d : DomainValue) (flow router vif t : ℕ) → IsRemedyForTtl d flow router vif t →
    ReachesAsMuch (take_out (router, vif) (net_of d flow)) (net_of d flow) t
reaches_as_much-from_remedy d flow router vif t x m =
    let r = x.reported in
    (causes_hold-all d flow r.flights r.causes r.of_flow (TakeOut x.lan router vif x.least)
    r.listed).reached_with t m x.low x.high

pub returns-clause-reached_with : goal.returns-clause-reached_with
returns-clause-reached_with c = reaches_as_much-from_remedy

-- A complete run without loss brings a copy to each LAN that its packet can reach.
pub returns-clause-carried : goal.returns-clause-carried
returns-clause-carried c = λ d flow router vif t qs ps x.
    carries_as_much-from_reached (net_of d flow) (router, vif) t qs ps
    (is_net-net_of d flow x.reported.of_flow.examined.domain)
    (reaches_as_much-from_remedy d flow router vif t x)

-- A row without the interface sends nothing by it.
pub returns-clause-unsent : goal.returns-clause-unsent
returns-clause-unsent c = are_not_sent_by-run
