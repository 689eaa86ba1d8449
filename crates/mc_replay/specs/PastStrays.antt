-- The run of a packet that goes on past strays (docs/FORMATS.md, "What is behind a stray"): the first waiting
-- copy is handled each time, up to the first flight in which a LAN carried two copies or no copy waits.
-- Strays are only collected. All of it is our own choice.
use Rattle.std.specs.Prelude.{◌≡◌, ℕ, Bool, true, false, not, ◌&&◌, nat_lt, if◌then◌else◌, List, [], ◌∷◌}
use Rattle.std.specs.Prelude.{length, Option, is_some, option_map}
use Rattle.mc_theory.specs.Nets.{Net}
use Rattle.mc_theory.specs.Flights.{Copy, Flight, run, start, step}
use Rattle.mc_theory.specs.Findings.{Finding, first_double, handles, walk_visits}
use Rattle.mc_theory.specs.Findings.Finding.{Duplicate, Loop}
use Rattle.mc_forward.specs.Domains.{DomainValue, net_of}
use Rattle.mc_replay.specs.FindingValues.{optional_finding_value}
use Rattle.mc_replay.specs.declared.past_strays.FlightPastStrays.{FlightPastStrays}

-- whether the run goes on from a flight: no LAN carried two copies, and a copy waits
abbrev pub goes_on : Flight → Bool
goes_on flight = not (is_some (first_double [] flight.carried)) && nat_lt 0 (length flight.waiting)

-- From the flight these picks, the first waiting copy each time, lead to the first flight from which the run
-- doesn't go on.
abbrev pub IsRunPastStrays : Net → List ℕ → Flight → Type 0
IsRunPastStrays net [] flight = goes_on flight ≡ false
IsRunPastStrays net (pick ∷ picks) flight = (goes_on flight ≡ true) × (pick ≡ 0)
    × IsRunPastStrays net picks (step net pick flight)

-- The run past strays leads from the first flight to the second one.
pub record EndsPastStrays (net : Net) (flight last : Flight) : Type 0 where
  pub picks : List ℕ
  pub stops : IsRunPastStrays net picks flight
  pub ends : last ≡ run net (handles picks) flight

-- what a LAN's second copy shows, whatever strays there are: a loop if it descends from the LAN's own first
-- copy, or else a duplicate
abbrev pub finding_of_double : Net → List Copy → Copy → Finding
finding_of_double net copies copy =
    if walk_visits net copies copy.lan (length copies) copy.sender then Loop copy.lan
    else Duplicate copy.lan

-- what the carried copies show, if a LAN carried two: a loop or a duplicate
abbrev pub second_copy_finding : Net → List Copy → Option Finding
second_copy_finding net copies = option_map (finding_of_double net copies) (first_double [] copies)

-- The flight with which the run past strays ends, of a packet of the flow with this TTL, and what its carried
-- copies show.
pub record IsFlightPastStrays (d : DomainValue) (flow ttl : ℕ) (past : FlightPastStrays) : Type 0 where
  pub domain : past.flight.domain ≡ d
  pub flow_of_flight : past.flight.flow ≡ flow
  pub run : EndsPastStrays (net_of d flow) (start (net_of d flow) ttl) past.flight.flight
  pub second : optional_finding_value past.second
      ≡ second_copy_finding (net_of d flow) past.flight.flight.carried
