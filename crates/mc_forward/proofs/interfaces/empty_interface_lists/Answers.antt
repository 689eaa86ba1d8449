use Rattle.mc_forward.proofs.VifLanLemmas.{map_below-none, map_below-push}
use Rattle.mc_forward.proofs.interfaces.empty_interface_lists.Goals as goal

-- Before the first turn there is no list, for none of the LANs.
pub loop-init : goal.loop-init
loop-init c = map_below-none _ _ c.new-lists.ensures.items

-- One more list, and it is empty as those before it are.
pub loop-preserved : goal.loop-preserved
loop-preserved c = map_below-push _ c.loop.lists.items c.push.new.self.items c.loop.counter _
    c.loop.invariant c.in_ok-push.ensures.items c.new.ensures.items
