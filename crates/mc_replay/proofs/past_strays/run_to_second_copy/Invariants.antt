use Rattle.std.proofs.Common.{◌≡◌, length}
use Rattle.mc_forward.specs.Domains.{net_of}
use Rattle.mc_replay.proofs.PastRunLemmas.{IsRunSoFar, room_left}
use Rattle.mc_replay.proofs.TravelLemmas.{FirstCopiesRecorded}
use Rattle.mc_replay.proofs.past_strays.run_to_second_copy.Given as goal

-- the flight is reached by the run's steps, and the first copies among those seen are stored
abbrev pub invariant-run : goal.invariant-run
invariant-run l = record {
  domain : l.flight.domain ≡ l.fn.view.domain;
  flow : l.flight.flow ≡ l.fn.view.flow;
  first_copies : FirstCopiesRecorded l.firsts (length l.fn.view.domain.topology.lans) l.seen
      l.flight.flight.carried;
  so_far : IsRunSoFar (net_of l.fn.view.domain l.fn.view.flow) l.fn.flight.flight l.flight.flight;
}

-- how many handlings are still possible while no LAN carried two copies
abbrev pub decreases-run : goal.decreases-run
decreases-run l = room_left (net_of l.fn.view.domain l.fn.view.flow) l.flight.flight
