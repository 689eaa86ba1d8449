use Rattle.std.proofs.Common.{length}
use Rattle.mc_theory.specs.Flights.{step}
use Rattle.mc_forward.specs.FlightsInDomain.{WaitAtRouters, AreCopiesInDomain, net_in}
use Rattle.mc_forward.proofs.DomainLemmas.{is_net-net_of}
use Rattle.mc_forward.proofs.WaitAtRouterLemmas.{wait_at_routers-step, from_either_outcome}
use Rattle.mc_forward.proofs.CopiesInDomainLemmas.{copies_in_domain-step, are_placed_below-domain}
use Rattle.mc_forward.proofs.flight.Flight.handle.Goals as goal

-- A step puts copies only on LANs where the domain places vifs, and lets them wait only at routers
-- that have vifs there; where memory runs out, the flight is the old one.
pub invariant_of-self : goal.invariant_of-self
invariant_of-self c =
    let n = c.self.inside.flow in
    let f = c.self.inside.copies in
    let was = c.self.invariant in
    let net = is_net-net_of n.domain n.flow was.flow.domain in
    record {
      flow = was.flow;
      routers = from_either_outcome c.handle.result (WaitAtRouters (length n.domain.topology.routers))
          c.handle.new.self (step (net_in n) c.args.index f) f
          c.handle.ensures.ok c.handle.ensures.err
          (wait_at_routers-step (net_in n) net c.args.index f was.routers) was.routers;
      listed = from_either_outcome c.handle.result (AreCopiesInDomain (length n.domain.topology.lans)
          (length n.domain.topology.routers)) c.handle.new.self (step (net_in n) c.args.index f) f
          c.handle.ensures.ok c.handle.ensures.err
          (copies_in_domain-step (net_in n) _ _ (are_placed_below-domain n.domain n.flow was.flow.domain)
          c.args.index f
          was.routers was.listed) was.listed;
    }
