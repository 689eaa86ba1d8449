-- As many lists are added as are asked for, each without an item.
use Rattle.mc_forward.proofs.VifLanLemmas.{map_below-none, map_below-push}
use Rattle.mc_search.proofs.interfaces_of_lans.empty_lists.Goals as goal

pub loop-init : goal.loop-init
loop-init g c = map_below-none _ _ c.new-lists.ensures.items

pub loop-preserved : goal.loop-preserved
loop-preserved g c = map_below-push _ c.loop.lists.items c.push.new.self.items c.loop.counter _
    c.loop.invariant c.in_ok-push.ensures.items c.new.ensures.items
