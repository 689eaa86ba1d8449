use Rattle.std.proofs.Common.{◌≡◌, true, None}
use Rattle.mc_theory.specs.Lists.{below}
use Rattle.mc_theory.specs.Reasons.{first_of, lan_reason}
use Rattle.mc_forward.specs.FlightsInDomain.{net_in}
use Rattle.mc_check.proofs.served.all_are_served.Given as goal

-- if the test is still true, no LAN so far lacks the flow
abbrev pub invariant-loop-number : goal.invariant-loop-number
invariant-loop-number l = (l.all ≡ true
    → first_of (lan_reason (net_in l.fn.view) l.fn.by_lan) (below l.number) ≡ None)
