use Rattle.std.proofs.Common.{◌≡◌, ◌-◌, length}
use Rattle.mc_theory.specs.Nets.{placed_interfaces}
use Rattle.mc_forward.specs.Domains.{net_of}
use Rattle.mc_replay.proofs.TravelLemmas.{IsTravelSoFar, FirstCopiesRecorded}
use Rattle.mc_replay.proofs.travel.travel_to_finding.Given as goal

-- the flight and the events are those of the travel so far, by the choices that were taken, and the first
-- copies among those seen are stored
abbrev pub invariant-travel : goal.invariant-travel
invariant-travel g l = record {
  domain : l.flight.domain ≡ l.fn.view.domain;
  flow : l.flight.flow ≡ l.fn.view.flow;
  first_copies : FirstCopiesRecorded l.firsts (length l.fn.view.domain.topology.lans) l.seen
      l.flight.flight.carried;
  travel_so_far : IsTravelSoFar (net_of l.fn.view.domain l.fn.view.flow)
      (length l.fn.view.domain.topology.lans) (g.P.Picker.choices l.fn.picker)
      l.fn.flight.flight (g.P.Picker.choices l.picker) l.flight.flight l.events.items;
}

-- how many placed vifs have no event yet
abbrev pub decreases-travel : goal.decreases-travel
decreases-travel g l = length (placed_interfaces (net_of l.fn.view.domain l.fn.view.flow))
    - length l.events.items
