use Rattle.std.proofs.Common.{ap, sym, ◌∙◌}
use Rattle.mc_theory.specs.Nets.{Net}
use Rattle.mc_theory.specs.Flights.{Copy, start}
use Rattle.mc_forward.specs.FlightsInDomain.{FlowOfDomain, FlightInDomain}
use Rattle.mc_forward.proofs.PerLanLemmas.{holds_first-start}
use Rattle.mc_replay.proofs.TravelLemmas.{net_of-same_arguments, is_travel_to-from_start}
use Rattle.mc_replay.proofs.travel.replay_to_end.Goals as goal

-- The flight begins with the source's copy, in the net of the view's flow, which is this one.
pub travel_to_finding-requires-clause-start : goal.travel_to_finding-requires-clause-start
travel_to_finding-requires-clause-start g c =
    let same = net_of-same_arguments c.new-view.result.domain c.args.domain.now
    c.new-view.result.flow c.args.flow (ap (λ (f : FlowOfDomain). f.domain) c.new-view.ensures.flow)
    (ap (λ (f : FlowOfDomain). f.flow) c.new-view.ensures.flow) in (
      c.args.ttl,
      ap (λ (x : FlightInDomain). x.flight) c.in_ok-flight.ensures.ok
          ∙ ap (λ (n : Net). start n c.args.ttl) (sym same),
    )

-- The travel from that start is the run of this flow's packet.
pub returns-clause-run : goal.returns-clause-run
returns-clause-run g c =
    is_travel_to-from_start c.new-view.result.domain c.args.domain.now c.new-view.result.flow
    c.args.flow c.args.ttl _ _ _ _ _ (ap (λ (f : FlowOfDomain). f.domain) c.new-view.ensures.flow)
    (ap (λ (f : FlowOfDomain). f.flow) c.new-view.ensures.flow)
    (ap (λ (x : FlightInDomain). x.flight) c.in_ok-flight.ensures.ok) c.in_ok-finding.ensures.run

-- No copy is stored yet, as none is carried.
pub travel_to_finding-requires-clause-firsts : goal.travel_to_finding-requires-clause-firsts
travel_to_finding-requires-clause-firsts g c =
    holds_first-start (λ (x : Copy). x.lan) c.in_ok-firsts.firsts _ c.in_ok-firsts.ensures
