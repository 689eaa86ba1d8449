use Rattle.std.proofs.Common.{length, None, sym, subst}
use Rattle.mc_theory.specs.Flights.{Copy}
use Rattle.mc_forward.specs.FlightsInDomain.{WaitAtRouters, AreCopiesInDomain, FlowOfDomain, IsFlight, net_in}
use Rattle.mc_forward.proofs.DomainLemmas.{is_net-net_of}
use Rattle.mc_forward.proofs.WaitAtRouterLemmas.{wait_at_routers-put, wait_at_routers-none}
use Rattle.mc_forward.proofs.CopiesInDomainLemmas.{copies_in_domain-put, copies_in_domain-none}
use Rattle.mc_forward.proofs.flight.Flight.start.Goals as goal

-- The one copy is on the source's LAN, which is the topology's, and waits at routers that have vifs
-- there.
pub invariant_of-result : goal.invariant_of-result
invariant_of-result c =
    let n = c.new-view.result in
    let routers = length n.domain.topology.routers in
    let lans = length n.domain.topology.lans in
    let net = is_net-net_of n.domain n.flow c.new-view.ensures.rules.domain in
    let first : Copy = record { lan = c.source.result; ttl = c.args.ttl; sender = None } in
    subst (λ (f : FlowOfDomain). IsFlight f c.put.new.self) (sym c.in_ok-flow.ensures) (record {
      flow = c.new-view.ensures.rules;
      routers = subst (WaitAtRouters routers) (sym c.in_ok-put.ensures.ok)
          (wait_at_routers-put (net_in n) net first c.in_ok-copies.copies
          (wait_at_routers-none routers c.in_ok-copies.copies c.in_ok-copies.ensures));
      listed = subst (AreCopiesInDomain lans routers) (sym c.in_ok-put.ensures.ok)
          (copies_in_domain-put (net_in n) lans routers first c.in_ok-copies.copies
          (record { lan = c.source.ensures.listed; sender = tt })
          (copies_in_domain-none lans routers c.in_ok-copies.copies c.in_ok-copies.ensures));
    })
