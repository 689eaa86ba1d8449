-- The examination ends with the flights of its travels, and what each finding says of its travel's last
-- flight is what explaining it asks for.
use Rattle.std.proofs.Common.{ap, subst}
use Rattle.mc_forward.specs.FlightsInDomain.{net_in}
use Rattle.mc_replay.specs.FindingValues.{finding_value}
use Rattle.mc_maker.specs.ExaminedFlights.{HasExaminedFlights}
use Rattle.mc_maker.specs.declared.examined_flights.ExaminedFlights.{ExaminedFlights}
use Rattle.mc_explain.proofs.LastFlightLemmas.{ends_travel-at_flow_ttl, is_out_of_reach-from_finished}
use Rattle.mc_explain.proofs.causes.explained.explain.Goals as goal

-- The travel at TTL 255 is clean, so the LAN has a first copy there, with a path. A packet with the flow's
-- TTL misses the LAN, so that it doesn't get through that path.
pub explain_least_ttl-requires-clause-path : goal.explain_least_ttl-requires-clause-path
explain_least_ttl-requires-clause-path c =
    let d = c.args.domain.now in
    let examined_flights = subst (λ (x : ExaminedFlights). HasExaminedFlights d c.args.flow x)
    c.in-FoundAtFlowTtl.is c.requires.examined_flights in
    is_out_of_reach-from_finished d c.args.flow c.in-Missed.lan c.new-view.result c.in-FoundAtFlowTtl.greatest
    c.in-FoundAtFlowTtl.least c.new-view.ensures.rules c.new-view.ensures.flow examined_flights.0
    examined_flights.1 examined_flights.2
    (ap finding_value c.in-Missed.is)

-- The travel at the flow's TTL ends with this flight.
pub explain_finding-requires-in_default : goal.explain_finding-requires-in_default
explain_finding-requires-in_default c = record {
  travel = (
      let d = c.args.domain.now in
      let examined_flights = subst (λ (x : ExaminedFlights). HasExaminedFlights d c.args.flow x)
      c.in-FoundAtFlowTtl.is c.requires.examined_flights in (
        (net_in c.new-view.result).ttl,
        ends_travel-at_flow_ttl d c.args.flow c.new-view.result
            c.in-FoundAtFlowTtl.least c.new-view.ensures.rules c.new-view.ensures.flow examined_flights.2,
      ));
}
