-- What a travel means: the run of a packet by a picker's choices, up to the first flight that has a finding.
-- Its words are those of mc_theory: Flights, Findings and FindingMeaning.
use Rattle.std.specs.Prelude.{◌≡◌, ◌≢◌, ℕ, ◌≤◌, false, List, [], length}
use Rattle.mc_theory.specs.Nets.{Net, placed_interfaces}
use Rattle.mc_theory.specs.Flights.{Flight, run, start}
use Rattle.mc_theory.specs.Certificates.{IsRight}
use Rattle.mc_theory.specs.Events.{Event, events}
use Rattle.mc_theory.specs.Findings.{Finding, Choices, IsTravel, AllWalksEnd, handles}
use Rattle.mc_theory.specs.Findings.Finding.{Clean}
use Rattle.mc_theory.specs.FindingMeaning.{Shows}
use Rattle.mc_forward.specs.Domains.{DomainValue, net_of}
use Rattle.mc_replay.specs.declared.travel.Travel.{Travel}
use Rattle.mc_replay.specs.FindingValues.{finding_value}

-- What is replayed.
pub record Replay : Type 0 where
  -- the net of the packet's flow
  pub net : Net
  -- how many LANs the domain has: those that want the flow are numbered below
  pub lans : ℕ
  -- the TTL that the packet is sent with
  pub ttl : ℕ
  -- the order in which copies are handled, by what the picker chooses
  pub choices : Choices

-- the choices of a picker that always takes the first waiting copy
abbrev pub first_choices : Choices
first_choices = record { numbers = []; last = false }

-- the replay of a packet of a domain's flow, sent with this TTL, by these choices
abbrev pub replay_of : DomainValue → (flow ttl : ℕ) → Choices → Replay
replay_of domain flow ttl choices = record {
  net = net_of domain flow;
  lans = length domain.topology.lans;
  ttl = ttl;
  choices = choices;
}

-- From the flight on, these are the reported events of the run by the picker's choices, which ends with
-- `last`. That flight has the finding, and no flight before it has one.
pub record IsTravelTo (net : Net) (lans : ℕ) (choices : Choices) (flight : Flight) (reported : List Event)
    (last : Flight) (finding : Finding) : Type 0 where
  pub picks : List ℕ
  pub travel : IsTravel net lans choices.numbers choices.last picks flight finding
  pub events : reported ≡ events net picks flight
  pub ends : last ≡ run net (handles picks) flight

-- The travel has the events of the run by the picker's choices up to this flight, which is the first one with
-- a finding, and has that finding.
abbrev pub IsRunTo : Replay → Travel → Flight → Type 0
IsRunTo replay travel flight = IsTravelTo replay.net replay.lans replay.choices
    (start replay.net replay.ttl) travel.events.items flight
    (finding_value travel.finding)

-- The travel is such a run up to some flight.
abbrev pub IsRunOfChoices : Replay → Travel → Type 0
IsRunOfChoices replay travel = (flight : Flight) × IsRunTo replay travel flight

-- There are at most as many events as vifs that are placed on LANs.
abbrev pub EventsAtMostPlacedVifs : Replay → Travel → Type 0
EventsAtMostPlacedVifs replay travel = length travel.events.items ≤ length (placed_interfaces replay.net)

-- The flight that the run ends with shows what the travel's finding means.
abbrev pub EndShowsFinding : Replay → Travel → Type 0
EndShowsFinding replay travel = (flight : Flight) × IsRunTo replay travel flight
    × Shows replay.net flight (finding_value travel.finding)

-- In that flight the walk back from each carried copy ends at the source's copy.
abbrev pub WalksEndAtSource : Replay → Travel → Type 0
WalksEndAtSource replay travel = (flight : Flight) × IsRunTo replay travel flight
    × AllWalksEnd replay.net flight.carried

-- A finding other than `Clean`, of a packet with at least the flow's TTL, shows that the flow isn't right.
abbrev pub ShowsWrongFlow : Replay → Travel → Type 0
ShowsWrongFlow replay travel = replay.net.ttl ≤ replay.ttl → finding_value travel.finding ≢ Clean
    → ¬ IsRight replay.net
