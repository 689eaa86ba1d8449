-- The result of examining a flow (Examined), together with the flights that its travels ended with, from
-- which an audit explains a fault.
use Rattle.std.specs.Prelude.{◌≡◌, ℕ, ⊤}
use Rattle.mc_forward.specs.Domains.{DomainValue, ttl_of}
use Rattle.mc_replay.specs.Travels.{IsRunTo, first_choices, replay_of}
use Rattle.mc_replay.specs.declared.travel.FinishedTravel.{FinishedTravel}
use Rattle.mc_maker.specs.Examined.{FindsNothing}
use Rattle.mc_maker.specs.declared.examination.Examined.{Examined}
use Rattle.mc_maker.specs.declared.examination.Examined.TheVariants as examined
use Rattle.mc_maker.specs.declared.examined_flights.ExaminedFlights.{ExaminedFlights}
use Rattle.mc_maker.specs.declared.examined_flights.ExaminedFlights.TheVariants.{Certified}
use Rattle.mc_maker.specs.declared.examined_flights.ExaminedFlights.TheVariants.{FoundAtTtl255}
use Rattle.mc_maker.specs.declared.examined_flights.ExaminedFlights.TheVariants.{FoundAtFlowTtl}

-- The result without its flights. `greatest` is the travel at TTL 255, and `least` the one at the flow's TTL.
abbrev pub without_flights : DomainValue → (flow : ℕ) → ExaminedFlights → Examined
without_flights domain flow (Certified entries) = examined.Certified entries
without_flights domain flow (FoundAtTtl255 ended) = examined.Found 255 ended.travel
without_flights domain flow (FoundAtFlowTtl greatest least) =
    examined.Found (ttl_of domain flow) least.travel

-- This is the travel of a packet of the flow with this TTL in which the first waiting copy is handled each
-- time, and the flight that it ends with.
pub record IsFinishedTravelOf (d : DomainValue) (flow ttl : ℕ) (ended : FinishedTravel) : Type 0 where
  pub domain : ended.flight.domain ≡ d
  pub flow_of_flight : ended.flight.flow ≡ flow
  pub run : IsRunTo (replay_of d flow ttl first_choices) ended.travel ended.flight.flight

-- The travels of the result are the one at TTL 255 and, where that finds nothing, the one at the flow's TTL.
abbrev pub HasExaminedFlights : DomainValue → (flow : ℕ) → ExaminedFlights → Type 0
HasExaminedFlights domain flow (Certified entries) = ⊤
HasExaminedFlights domain flow (FoundAtTtl255 ended) = IsFinishedTravelOf domain flow 255 ended
HasExaminedFlights domain flow (FoundAtFlowTtl greatest least) =
    IsFinishedTravelOf domain flow 255 greatest × FindsNothing greatest.travel
    × IsFinishedTravelOf domain flow (ttl_of domain flow) least
