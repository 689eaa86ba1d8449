-- The flight of one packet of a flow through a domain.
use Rattle.std.specs.Prelude.{◌≡◌, ℕ, ◌<◌, List, length, take, Option, IfSome, refl}
use Rattle.std.specs.Coded.{Coded, code_by, coded×, coded_list, coded_option, coded_ℕ}
use Rattle.mc_theory.specs.Lists.{In}
use Rattle.mc_theory.specs.Nets.{Net, Interface}
use Rattle.mc_theory.specs.Flights.{Copy, Waiting, Flight, start}
use Rattle.mc_theory.specs.Findings.{Finding, Choices, IsTravel, OnFinding}
use Rattle.mc_forward.specs.Domains.{DomainValue, IsDomain, net_of}
use Rattle.mc_forward.specs.DomainParts.{domain_code}

-- a flow of a domain, by the flow's number
pub record FlowOfDomain : Type 0 where
  pub domain : DomainValue
  pub flow : ℕ

-- the net of the flow
abbrev pub net_in : FlowOfDomain → Net
net_in flow = net_of flow.domain flow.flow

-- the domain keeps its rules, and has a flow of this number
pub record IsFlowOfDomain (flow_of_domain : FlowOfDomain) : Type 0 where
  pub domain : IsDomain flow_of_domain.domain
  pub flow : flow_of_domain.flow < length flow_of_domain.domain.topology.flows

-- the flight of one packet through a domain, and the number of the packet's flow
pub record FlightInDomain : Type 0 where
  pub domain : DomainValue
  pub flow : ℕ
  pub flight : Flight

-- the net of the packet's flow
abbrev pub net_of_flight_in_domain : FlightInDomain → Net
net_of_flight_in_domain flight = net_of flight.domain flight.flow

-- the same domain and flow, with another flight
abbrev pub with_flight : FlightInDomain → Flight → FlightInDomain
with_flight flight flown = record { domain = flight.domain; flow = flight.flow; flight = flown }

-- each waiting copy waits at one of the first `routers` routers
abbrev pub WaitAtRouters : ℕ → Flight → Type 0
WaitAtRouters routers flight = (waiting : Waiting) → In waiting flight.waiting → waiting.router < routers

-- the copy is on one of the first `lans` LANs, and one of the first `routers` routers sent it, or
-- the source did
pub record IsCopyInDomain (lans routers : ℕ) (copy : Copy) : Type 0 where
  pub lan : copy.lan < lans
  pub sender : IfSome copy.sender (λ sender. sender.0 < routers)

-- each carried copy is on one of the first `lans` LANs, and one of the first `routers` routers sent
-- it, or the source did
abbrev pub AreCopiesInDomain : ℕ → ℕ → Flight → Type 0
AreCopiesInDomain lans routers flight = (copy : Copy) → In copy flight.carried
    → IsCopyInDomain lans routers copy

-- the rules of every flight in a domain: its copies are on LANs of the domain, and were sent by its
-- routers, or wait there
pub record IsFlight (flow_of_domain : FlowOfDomain) (flight : Flight) : Type 0 where
  pub flow : IsFlowOfDomain flow_of_domain
  pub routers : WaitAtRouters (length flow_of_domain.domain.topology.routers) flight
  pub listed : AreCopiesInDomain (length flow_of_domain.domain.topology.lans)
      (length flow_of_domain.domain.topology.routers) flight

-- ---- travels of a flow's packet with a TTL

-- These picks, by the picker's choices, are a travel of a packet with this TTL that has the finding.
abbrev pub IsFlowTravel : DomainValue → (flow ttl : ℕ) → Choices → (picks : List ℕ) → Finding → Type 0
IsFlowTravel domain flow ttl choices picks finding =
    IsTravel (net_of domain flow) (length domain.topology.lans) choices.numbers choices.last picks
    (start (net_of domain flow) ttl) finding

-- Where a travel has the finding, P holds of its last flight, whatever the picker chooses.
abbrev pub OnFlowFinding : DomainValue → (flow ttl : ℕ) → Finding → (Flight → Type 0) → Type 0
OnFlowFinding domain flow ttl finding P = OnFinding (net_of domain flow) (length domain.topology.lans) ttl
    finding P

-- ---- how flights are stored

-- the flight with these fields
abbrev pub flight_of : List Copy → List Waiting → List Interface → Flight
flight_of carried waiting strays = record { carried = carried; waiting = waiting; strays = strays }

-- a flow of a domain is stored as its fields
abbrev pub flow_of_domain_code : Coded FlowOfDomain
flow_of_domain_code =
    code_by (DomainValue × ℕ) (coded× domain_code coded_ℕ) (λ flow. (flow.domain, flow.flow))
    (λ stored. record { domain = stored.0; flow = stored.1 }) (λ _. refl)

-- a carried copy is stored as its fields
abbrev pub copy_code : Coded Copy
copy_code =
    code_by (ℕ × (ℕ × Option Interface))
    (coded× coded_ℕ (coded× coded_ℕ (coded_option (coded× coded_ℕ coded_ℕ))))
    (λ copy. (copy.lan, (copy.ttl, copy.sender)))
    (λ stored. record { lan = stored.0; ttl = stored.1.0; sender = stored.1.1 }) (λ _. refl)

-- a waiting copy is stored as its fields
abbrev pub waiting_code : Coded Waiting
waiting_code =
    code_by (ℕ × (ℕ × ℕ)) (coded× coded_ℕ (coded× coded_ℕ coded_ℕ))
    (λ waiting. (waiting.router, (waiting.vif, waiting.ttl)))
    (λ stored. record { router = stored.0; vif = stored.1.0; ttl = stored.1.1 }) (λ _. refl)

-- a flight is stored as its fields
abbrev pub flight_code : Coded Flight
flight_code =
    code_by (List Copy × (List Waiting × List Interface))
    (coded× (coded_list copy_code)
    (coded× (coded_list waiting_code) (coded_list (coded× coded_ℕ coded_ℕ))))
    (λ flight. (flight.carried, (flight.waiting, flight.strays)))
    (λ stored. flight_of stored.0 stored.1.0 stored.1.1) (λ _. refl)

-- a flight in a domain is stored as its fields
abbrev pub flight_in_domain_code : Coded FlightInDomain
flight_in_domain_code =
    code_by (DomainValue × (ℕ × Flight)) (coded× domain_code (coded× coded_ℕ flight_code))
    (λ flight. (flight.domain, (flight.flow, flight.flight)))
    (λ stored. record { domain = stored.0; flow = stored.1.0; flight = stored.1.1 }) (λ _. refl)

-- the later flight with only as many carried copies, waiting copies and strays as the earlier one has, from
-- the front
abbrev pub cut_to_lengths : Flight → Flight → Flight
cut_to_lengths earlier later = flight_of
    (take (length earlier.carried) later.carried)
    (take (length earlier.waiting) later.waiting)
    (take (length earlier.strays) later.strays)

-- each list of the later flight begins with that of the earlier one
abbrev pub Extends : Flight → Flight → Type 0
Extends earlier later = cut_to_lengths earlier later ≡ earlier
