use Rattle.std.proofs.Common.{◌<◌, List, All, length, subst, sym}
use Rattle.std.specs.Prelude.{IfSome}
use Rattle.mc_theory.specs.Flights.{Copy}
use Rattle.mc_forward.specs.FlightsInDomain.{FlightInDomain}
use Rattle.mc_forward.proofs.CopiesInDomainLemmas.{all-from_each_member}
use Rattle.mc_forward.proofs.flight.Flight.copies.Goals as goal

-- A flight's invariant says of each copy that its LAN is the topology's.
pub returns-clause-lans : goal.returns-clause-lans
returns-clause-lans c =
    subst (λ (j : FlightInDomain). All (λ x. x.lan < length j.domain.topology.lans) c.carried.result.now)
    c.self.view_is
    (subst (λ (xs : List Copy). All (λ x. x.lan < length c.self.inside.flow.domain.topology.lans) xs)
    (sym c.carried.ensures)
    (all-from_each_member (λ (x : Copy). x.lan < length c.self.inside.flow.domain.topology.lans) _
    (λ x h. (c.self.invariant.listed x h).lan)))

-- A flight's invariant says of each copy that its sender is one of the topology's routers.
pub returns-clause-senders : goal.returns-clause-senders
returns-clause-senders c =
    subst (λ (j : FlightInDomain). All (λ x. IfSome x.sender (λ i. i.0 < length j.domain.topology.routers))
    c.carried.result.now) c.self.view_is
    (subst (λ (xs : List Copy). All
    (λ x. IfSome x.sender (λ i. i.0 < length c.self.inside.flow.domain.topology.routers)) xs)
    (sym c.carried.ensures)
    (all-from_each_member (λ (x : Copy). IfSome x.sender (λ i. i.0 < length
    c.self.inside.flow.domain.topology.routers)) _
    (λ x h. (c.self.invariant.listed x h).sender)))
