use Rattle.std.proofs.Common.{sym, arith}
use Rattle.mc_theory.specs.Reasons.{lan_reason}
use Rattle.mc_forward.specs.FlightsInDomain.{net_in}
use Rattle.mc_check.proofs.BelowLemmas.{first_of-below_none, first_of-none_more, first_of-found_at}
use Rattle.mc_check.proofs.served.lans_reason.Goals as goal

-- Before the first LAN there is none that could lack the flow.
pub loop-number-init : goal.loop-number-init
loop-number-init c = first_of-below_none _

-- No LAN with a lower number lacks the flow, so the one that is found is the first.
pub returns-in-Some : goal.returns-in-Some
returns-in-Some c = sym (first_of-found_at (lan_reason (net_in c.args.view.now) c.args.by_lan.now)
    c.loop-number.number _ _ c.loop-number.invariant (sym c.in-Some.ensures.reason)
    (omega (arith, c.lans-number-end.ensures.count)))

-- A LAN that gets the flow, or doesn't want it, adds no reason.
pub loop-number-preserved : goal.loop-number-preserved
loop-number-preserved c = first_of-none_more (lan_reason (net_in c.args.view.now) c.args.by_lan.now)
    c.loop-number.number c.loop-number.invariant (sym c.in_default.ensures.reason)
