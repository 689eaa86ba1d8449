use Rattle.mc_theory.specs.Reasons.{lan_reason}
use Rattle.mc_forward.specs.FlightsInDomain.{net_in}
use Rattle.mc_check.proofs.BelowLemmas.{first_of-below_none, first_of-none_more_by_bools}
use Rattle.mc_check.proofs.served.all_are_served.Goals as goal

-- Before the first LAN there is none that could lack the flow.
pub loop-number-init : goal.loop-number-init
loop-number-init c = λ _. first_of-below_none (lan_reason (net_in c.args.view.now) c.args.by_lan.now)

-- The test stays true only if this LAN is served too, and then it adds no reason.
pub loop-number-preserved : goal.loop-number-preserved
loop-number-preserved c =
    first_of-none_more_by_bools (lan_reason (net_in c.args.view.now) c.args.by_lan.now) c.loop-number.number
    c.loop-number.all c.is_served-all.result c.loop-number.invariant c.is_served-all.ensures.sound
