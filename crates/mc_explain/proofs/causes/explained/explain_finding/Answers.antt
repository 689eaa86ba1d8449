-- By the travel's last flight.
use Rattle.std.proofs.Common.{ap, subst}
use Rattle.mc_theory.specs.Findings.{Finding}
use Rattle.mc_replay.specs.FindingValues.{finding_value}
use Rattle.mc_explain.specs.LastFlights.{EndsTravel}
use Rattle.mc_explain.proofs.LastFlightLemmas.{has_second_copy-from_duplicate, has_loop-from_loop}
use Rattle.mc_explain.proofs.causes.explained.explain_finding.Goals as goal

-- A travel that finds a duplicate ends with a flight whose first double copy is on that LAN.
pub explain_duplicate-requires-clause-second : goal.explain_duplicate-requires-clause-second
explain_duplicate-requires-clause-second c =
    let f = c.args.view.now in
    let j = c.args.ended.now.flight in
    let ends = subst (λ (x : Finding). EndsTravel f c.requires.travel.0 x j)
    (ap finding_value c.in-Duplicate.is) c.requires.travel.1 in
    has_second_copy-from_duplicate f c.requires.travel.0 c.in-Duplicate.lan j c.topology-rules.ensures.rules
    ends

-- A travel that finds a loop ends with a flight whose first double copy came from its own LAN.
pub explain_loop-requires-clause-second : goal.explain_loop-requires-clause-second
explain_loop-requires-clause-second c =
    let f = c.args.view.now in
    let j = c.args.ended.now.flight in
    let ends = subst (λ (x : Finding). EndsTravel f c.requires.travel.0 x j)
    (ap finding_value c.in-Loop.is) c.requires.travel.1 in
    has_loop-from_loop f c.requires.travel.0 c.in-Loop.lan j c.topology-rules.ensures.rules ends
