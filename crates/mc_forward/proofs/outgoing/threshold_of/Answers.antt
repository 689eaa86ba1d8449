use Rattle.mc_forward.proofs.ThresholdLemmas.{threshold_of-append_lower}
use Rattle.mc_forward.proofs.outgoing.threshold_of.Goals as goal

-- The pairs that were left out at the front have lower vifs, so that the threshold isn't among them.
pub loop-oif-init : goal.loop-oif-init
loop-oif-init c = threshold_of-append_lower c.args.vif c.outgoing_from-oif-items.result.now
    c.args.entry.now.oifs c.outgoing_from-oif-items.ensures.rest
