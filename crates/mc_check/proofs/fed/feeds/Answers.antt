-- The search begins at the first oif that isn't below the vif. Those before it have other vifs, so none of
-- them feeds the LAN.
use Rattle.mc_check.proofs.FeedsLemmas.{feeds_from-outgoing_from}
use Rattle.mc_check.proofs.fed.feeds.Goals as goal

pub loop-oif-init : goal.loop-oif-init
loop-oif-init c = feeds_from-outgoing_from c.args.base.now c.args.vif c.outgoing_from-oif-items.result.now
    c.args.entry.now.oifs c.outgoing_from-oif-items.ensures.rest
