use Rattle.std.proofs.Common.{◌≡◌, List, is_some}
use Rattle.mc_theory.specs.Lists.{below}
use Rattle.mc_theory.specs.Flights.{Copy}
use Rattle.mc_theory.specs.Findings.{missed}
use Rattle.mc_forward.specs.FlightsInDomain.{net_in}
use Rattle.mc_replay.specs.FindingValues.{HasItemWhereCarried}
use Rattle.mc_replay.proofs.flight_finding.misses_any_lan.Given as goal

-- the flag is set exactly if a LAN so far is missed
abbrev pub invariant-loop-number : goal.invariant-loop-number
invariant-loop-number g l = (copies : List Copy) → HasItemWhereCarried l.fn.firsts copies
    → l.some ≡ is_some (missed (net_in l.fn.view) copies (below l.number))
