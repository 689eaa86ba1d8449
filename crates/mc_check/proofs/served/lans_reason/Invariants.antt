use Rattle.std.proofs.Common.{◌≡◌, None}
use Rattle.mc_theory.specs.Lists.{below}
use Rattle.mc_theory.specs.Reasons.{first_of, lan_reason}
use Rattle.mc_forward.specs.FlightsInDomain.{net_in}
use Rattle.mc_check.proofs.served.lans_reason.Given as goal

-- no LAN so far lacks the flow
abbrev pub invariant-loop-number : goal.invariant-loop-number
invariant-loop-number l = first_of (lan_reason (net_in l.fn.view) l.fn.by_lan) (below l.number)
    ≡ None
