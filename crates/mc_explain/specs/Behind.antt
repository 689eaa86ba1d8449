-- What is behind a stray (docs/FORMATS.md, "What is behind a stray"): what the run meets that goes on past
-- it. The answers are our own choice.
use Rattle.std.specs.Prelude.{◌≡◌, ◌==◌, ◌&&◌, ℕ, Bool, true, false, not, List, [], ◌∷◌, ◌++◌, filter, fold}
use Rattle.std.specs.Prelude.{if◌then◌else◌, length, map, reverse, Option, None, Some, is_none, option_map}
use Rattle.std.specs.List.{list_any}
use Rattle.mc_topology.specs.Topology.{TopologyValue}
use Rattle.mc_theory.specs.Lists.{below}
use Rattle.mc_theory.specs.Nets.{Net, Row, Interface}
use Rattle.mc_theory.specs.Nets.Row.{Exact, Open, NoRow}
use Rattle.mc_theory.specs.Flights.{Copy, Flight, is_sender, start}
use Rattle.mc_theory.specs.Findings.{Finding as FindingValue, first_copy_on, first_double, sender_on}
use Rattle.mc_theory.specs.Findings.Finding.{Duplicate, Loop}
use Rattle.mc_theory.specs.Hops.{hops_of_copy_until}
use Rattle.mc_forward.specs.Domains.{DomainValue, net_of}
use Rattle.mc_replay.specs.FindingValues.{optional_finding_value}
use Rattle.mc_replay.specs.PastStrays.{EndsPastStrays, finding_of_double}
use Rattle.mc_explain.specs.Explained.{circle_cause, sender_causes}
use Rattle.mc_explain.specs.ShownNeed.{need_of_two_copies}
use Rattle.mc_explain.specs.declared.causes.Cause.{Cause}
use Rattle.mc_explain.specs.declared.causes.behind.Behind.{Behind}

-- ---- a second copy

-- Why the carried copies show the finding of this copy, the first double one (the first that has an earlier
-- one on its LAN), as for the finding of a travel, but without a remedy: the senders of the LAN's first copy
-- and of the copy, or the path by which it came from the LAN itself, from its beginning.
abbrev pub double_causes : Net → List Copy → Copy → FindingValue → List Cause
double_causes net copies copy (Duplicate lan) =
    sender_causes copy.lan (sender_on copies copy.lan) ++ sender_causes copy.lan copy.sender
double_causes net copies copy (Loop lan) = reverse
    (map circle_cause (hops_of_copy_until net copies copy.lan copy))
double_causes net copies copy _ = []

-- why the carried copies show a second copy, if there is a first double one
abbrev pub second_causes : Net → List Copy → Option Copy → List Cause
second_causes net copies None = []
second_causes net copies (Some copy) = double_causes net copies copy (finding_of_double net copies copy)

-- The TTL from which on packets show the second copy. None is given where the flow's own TTL is 255, the
-- greatest.
abbrev pub second_shown_from : Net → List Copy → Option Copy → Option ℕ
second_shown_from net copies None = None
second_shown_from net copies (Some copy) = if net.ttl == 255 then None
    else Some (need_of_two_copies net copies copy.lan)

-- ---- what leads out of the domain

-- whether the row isn't followed: there is no (S,G) entry, but a (*,G) or (*,*) one
abbrev pub is_open : Row → Bool
is_open (Exact incoming pairs) = false
is_open Open = true
is_open NoRow = false

-- whether the stray at interface i was sent by an entry, and is not the finding's own
abbrev pub is_other_leak : Net → (own interface : Interface) → Bool
is_other_leak net own interface = not (is_open (net.row interface.0))
    && not (is_sender (Some own) interface)

-- these routers and then this one, unless it is one of them
abbrev pub with_router_once : List ℕ → ℕ → List ℕ
with_router_once routers router = if list_any (λ other. other == router) routers then routers
    else (routers ++ router ∷ [])

-- these routers and then the stray's, if its row isn't followed
abbrev pub with_open_router : Net → List ℕ → Interface → List ℕ
with_open_router net routers interface = if is_open (net.row interface.0)
    then with_router_once routers interface.0 else routers

-- the routers whose rows aren't followed, of those at which copies left, each once
abbrev pub open_routers : Net → List Interface → List ℕ
open_routers net strays = fold (with_open_router net) [] strays

-- ---- what is missed

-- whether a LAN wants the flow and carried none of these copies
abbrev pub is_missed : Net → List Copy → (lan : ℕ) → Bool
is_missed net copies lan = net.wants lan && is_none (first_copy_on copies lan)

-- the LANs that want the flow and carried none of these copies
abbrev pub missed_lans : TopologyValue → Net → List Copy → List ℕ
missed_lans topology net copies = filter (is_missed net copies) (below (length topology.lans))

-- The LANs that are called missed: none where a router's row isn't followed, or a router is excluded (the
-- domain isn't whole), since that router may send them a copy.
abbrev pub missed_unless_open : (whole : Bool) → (open_routers lans : List ℕ) → List ℕ
missed_unless_open true [] lans = lans
missed_unless_open true (router ∷ routers) lans = []
missed_unless_open false open_routers lans = []

-- ---- the whole answer

-- the list, but nothing where a LAN carried two copies: then nothing else is shown
abbrev pub unless_second : {A : Type 0} → Option Copy → List A → List A
unless_second None xs = xs
unless_second (Some copy) xs = []

-- This is what the flight shows with which the run past the stray ends: `whole` is true where no router is
-- excluded, `own` is the interface of the stray, and `double` is the first double copy, if there is one.
pub record IsBehindIn (whole : Bool) (topology : TopologyValue) (net : Net) (own : Interface)
    (flight : Flight) (double : Option Copy) (behind : Behind) : Type 0 where
  pub finding : optional_finding_value behind.finding
      ≡ option_map (finding_of_double net flight.carried) double
  pub causes : behind.causes.items ≡ second_causes net flight.carried double
  pub shown : behind.shown_from ≡ second_shown_from net flight.carried double
  pub strays : behind.strays.items ≡ unless_second double (filter (is_other_leak net own) flight.strays)
  pub not_followed : behind.open_routers.items ≡ unless_second double (open_routers net flight.strays)
  pub missed : behind.missed.items ≡ unless_second double
      (missed_unless_open whole (open_routers net flight.strays) (missed_lans topology net flight.carried))

-- This is what is behind the stray at interface `own` of a packet of the flow with TTL 255.
pub record IsBehind (whole : Bool) (domain : DomainValue) (flow : ℕ) (own : Interface)
    (behind : Behind) : Type 0 where
  pub flight : Flight
  pub run : EndsPastStrays (net_of domain flow) (start (net_of domain flow) 255) flight
  pub shows : IsBehindIn whole domain.topology (net_of domain flow) own flight
      (first_double [] flight.carried) behind
