use Rattle.std.proofs.Common.{ap, sym, ◌∙◌}
use Rattle.mc_theory.specs.Nets.{Net}
use Rattle.mc_theory.specs.Flights.{Copy, start}
use Rattle.mc_forward.specs.FlightsInDomain.{FlowOfDomain, FlightInDomain}
use Rattle.mc_forward.proofs.PerLanLemmas.{holds_first-start}
use Rattle.mc_replay.proofs.TravelLemmas.{net_of-same_arguments}
use Rattle.mc_replay.proofs.past_strays.run_past_strays.Goals as goal

-- The flight begins with the source's copy, in the net of the view's flow, which is this one.
pub run_to_second_copy-requires-clause-start : goal.run_to_second_copy-requires-clause-start
run_to_second_copy-requires-clause-start c =
    let same = net_of-same_arguments c.new-view.result.domain c.args.domain.now
    c.new-view.result.flow c.args.flow (ap (λ (f : FlowOfDomain). f.domain) c.new-view.ensures.flow)
    (ap (λ (f : FlowOfDomain). f.flow) c.new-view.ensures.flow) in (
      c.args.ttl,
      ap (λ (x : FlightInDomain). x.flight) c.in_ok-flight.ensures.ok
          ∙ ap (λ (n : Net). start n c.args.ttl) (sym same),
    )

-- No copy is stored yet, as none is carried.
pub run_to_second_copy-requires-clause-firsts : goal.run_to_second_copy-requires-clause-firsts
run_to_second_copy-requires-clause-firsts c =
    holds_first-start (λ (x : Copy). x.lan) c.in_ok-firsts.firsts _ c.in_ok-firsts.ensures
