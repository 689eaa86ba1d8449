-- The flights that travels end with, and the paths of their copies (Paths and Hops of mc_theory), as far as
-- an explanation needs them. The first double copy of a flight is the first carried copy that has an earlier
-- one on its LAN.
use Rattle.std.specs.Prelude.{◌≡◌, ℕ, ◌≤◌, false, List, [], length, Some}
use Rattle.mc_theory.specs.Nets.{Net, Interface}
use Rattle.mc_theory.specs.Flights.{Copy, run, start}
use Rattle.mc_theory.specs.Findings.{Finding, IsTravel, first_copy_on, first_double, handles}
use Rattle.mc_theory.specs.FindingMeaning.{IsFirstDouble}
use Rattle.mc_theory.specs.Paths.{CameByHops, CameFromLan, PassesHops, need}
use Rattle.mc_theory.specs.Hops.{hops_of_copy, hops_of_copy_until}
use Rattle.mc_forward.specs.FlightsInDomain.{FlowOfDomain, FlightInDomain, net_in}

-- The flight is the last one of the travel of the flow's packet with this TTL that always handles the first
-- waiting copy, and the finding is what the travel finds.
pub record EndsTravel (flow : FlowOfDomain) (ttl : ℕ) (finding : Finding)
    (flight : FlightInDomain) : Type 0 where
  pub domain : flight.domain ≡ flow.domain
  pub low : 1 ≤ ttl
  pub high : ttl ≤ 255
  pub picks : List ℕ
  pub travel :
      IsTravel (net_in flow) (length flow.domain.topology.lans) [] false picks
      (start (net_in flow) ttl) finding
  pub ends : flight.flight ≡ run (net_in flow) (handles picks) (start (net_in flow) ttl)

-- The LAN's first copy is `first`, which came by the hops that are followed back from it, and packets with
-- some TTL get through these.
pub record HasPath (net : Net) (copies : List Copy) (lan : ℕ) (first : Copy) : Type 0 where
  pub on : first_copy_on copies lan ≡ Some first
  pub came_by_hops : CameByHops net copies first (hops_of_copy net copies first)
  pub small : need (hops_of_copy net copies first) ≤ 255

-- The copy is the flight's first double copy, an interface sent it, and the first copy on its LAN has a path.
pub record IsSecondCopy (net : Net) (copies : List Copy) (second : Copy) : Type 0 where
  pub is_double : IsFirstDouble copies second
  pub found : first_double [] copies ≡ Some second
  pub sender : Interface
  pub sent : second.sender ≡ Some sender
  pub first : Copy
  pub path : HasPath net copies second.lan first

-- The flight's first double copy is on this LAN.
pub record HasSecondCopy (net : Net) (copies : List Copy) (lan : ℕ) : Type 0 where
  pub second : Copy
  pub is : IsSecondCopy net copies second
  pub on : second.lan ≡ lan

-- The flight's first double copy came from its own LAN, by the hops that are followed back from it.
pub record HasLoop (net : Net) (copies : List Copy) (lan : ℕ) : Type 0 where
  pub has : HasSecondCopy net copies lan
  pub came_by_hops :
      CameFromLan net copies lan has.second
      (hops_of_copy_until net copies lan has.second)

-- The LAN's first copy has a path that packets with this TTL don't get through.
pub record IsOutOfReach (net : Net) (copies : List Copy) (ttl lan : ℕ) : Type 0 where
  pub first : Copy
  pub path : HasPath net copies lan first
  pub stopped : PassesHops ttl (hops_of_copy net copies first) → ⊥
