-- What is true of each answer about what is behind a stray (docs/FORMATS.md, "What is behind a stray"): one
-- run of the flow's packets shows all of it.
use Rattle.std.specs.Prelude.{◌≡◌, ℕ, ◌≤◌, true, List, [], ◌++◌, map, reverse, Some}
use Rattle.mc_theory.specs.Lists.{In}
use Rattle.mc_theory.specs.Nets.{Net, Interface}
use Rattle.mc_theory.specs.Flights.{Copy, Flight, start}
use Rattle.mc_theory.specs.Certificates.{lans}
use Rattle.mc_theory.specs.Findings.{Finding, first_copy_on}
use Rattle.mc_theory.specs.Findings.Finding.{Duplicate, Loop}
use Rattle.mc_theory.specs.FindingMeaning.{IsFirstDouble, Shows}
use Rattle.mc_theory.specs.Paths.{Hop, CameFromLan}
use Rattle.mc_theory.specs.ShownFrom.{EachCompleteRunHasFault}
use Rattle.mc_forward.specs.Domains.{DomainValue, net_of}
use Rattle.mc_replay.specs.FindingValues.{optional_finding_value}
use Rattle.mc_replay.specs.PastStrays.{EndsPastStrays}
use Rattle.mc_explain.specs.Explained.{circle_cause, sender_causes}
use Rattle.mc_explain.specs.declared.causes.Cause.{Cause}
use Rattle.mc_explain.specs.declared.causes.behind.Behind.{Behind}

-- The causes are the senders of the LAN's first copy and of its second, the first double one.
pub record HasSenders (copies : List Copy) (lan : ℕ) (causes : List Cause) : Type 0 where
  pub first : Copy
  pub second : Copy
  pub first_on : first_copy_on copies lan ≡ Some first
  pub is_double : IsFirstDouble copies second
  pub on : second.lan ≡ lan
  pub causes_are : causes ≡ sender_causes lan first.sender ++ sender_causes lan second.sender

-- The causes are the path by which the LAN's second copy, the first double one, came from the LAN itself,
-- from its beginning.
pub record HasCircle (net : Net) (copies : List Copy) (lan : ℕ) (causes : List Cause) : Type 0 where
  pub second : Copy
  pub is_double : IsFirstDouble copies second
  pub on : second.lan ≡ lan
  pub circle : List Hop
  pub came_by_hops : CameFromLan net copies lan second circle
  pub causes_are : causes ≡ reverse (map circle_cause circle)

-- All of the answer is true of one run of the flow's packets, that of a packet with TTL 255 which goes on
-- past strays.
pub record IsTrueBehind (domain : DomainValue) (flow : ℕ) (behind : Behind) : Type 0 where
  pub flight : Flight
  -- This is the flight that the run ends with.
  pub run : EndsPastStrays (net_of domain flow) (start (net_of domain flow) 255) flight
  -- It shows the finding, if there is one;
  pub shows : (finding : Finding) → optional_finding_value behind.finding ≡ Some finding
      → Shows (net_of domain flow) flight finding
  -- the causes of a duplicate are the senders of the two copies;
  pub duplicate : (lan : ℕ) → optional_finding_value behind.finding ≡ Some (Duplicate lan)
      → HasSenders flight.carried lan behind.causes.items
  -- the causes of a loop are the path of the second copy;
  pub loop_back : (lan : ℕ) → optional_finding_value behind.finding ≡ Some (Loop lan)
      → HasCircle (net_of domain flow) flight.carried lan behind.causes.items
  -- and each complete run without loss of a packet with at least the TTL that is given has the finding's
  -- fault.
  pub shown : (finding : Finding) (least ttl : ℕ) → optional_finding_value behind.finding ≡ Some finding
      → behind.shown_from ≡ Some least → least ≤ ttl
      → EachCompleteRunHasFault (net_of domain flow) ttl finding
  -- Copies left by the interfaces that are named.
  pub strays : (interface : Interface) → In interface behind.strays.items → In interface flight.strays
  -- Where a LAN is named as missed, no copy waits any more, and that LAN wants the flow and carried none.
  pub missed : (lan : ℕ) → In lan behind.missed.items → (flight.waiting ≡ [])
      × ((net_of domain flow).wants lan ≡ true)
      × (In lan (lans flight.carried) → ⊥)
