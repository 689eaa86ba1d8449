use Rattle.std.proofs.Common.{length, sym, subst}
use Rattle.mc_forward.specs.FlightsInDomain.{WaitAtRouters, AreCopiesInDomain}
use Rattle.mc_forward.proofs.WaitAtRouterLemmas.{wait_at_routers-without}
use Rattle.mc_forward.proofs.flight.Flight.lose.Goals as goal

-- Taking away a waiting copy leaves fewer that wait and the same that were carried.
pub invariant_of-self : goal.invariant_of-self
invariant_of-self c =
    let routers = length c.self.inside.flow.domain.topology.routers in
    record {
      flow = c.self.invariant.flow;
      routers = subst (WaitAtRouters routers) (sym c.lose.ensures.removed)
          (wait_at_routers-without routers c.args.index c.self.inside.copies c.self.invariant.routers);
      listed = subst (AreCopiesInDomain (length c.self.inside.flow.domain.topology.lans) routers)
          (sym c.lose.ensures.removed) c.self.invariant.listed;
    }
