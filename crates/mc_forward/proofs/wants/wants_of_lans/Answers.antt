use Rattle.std.proofs.Common.{Bool, List, subst, sym}
use Rattle.mc_forward.specs.Assembling.{AreChannelsWanted, AreWanted}
use Rattle.mc_forward.proofs.IndexLemmas.{length-push, related_at_each_index-pushed_list, slice_get-from_read}
use Rattle.mc_forward.proofs.WantsLemmas.{are_wanted-from_channels}
use Rattle.mc_forward.proofs.wants.wants_of_lans.Goals as goal

-- The channels are the flows', so that the answers for the channels are answers for the flows; they
-- stand behind those of the LANs before this one.
pub loop-list-preserved : goal.loop-list-preserved
loop-list-preserved c =
    let found = slice_get-from_read c.args.reports.now c.loop-list.list-index c.list-item.result
    c.loop-list-test.true c.list-item.is in
    let channels = c.in_ok-channels.channels in
    let list = c.list-item.result in
    let own = c.of-in-loop-list.result in
    let answers = subst (λ (answers : List Bool). AreChannelsWanted channels list answers)
    (sym c.of-in-loop-list.ensures) c.in_ok-own.ensures.wanted in
    let wanted = are_wanted-from_channels c.args.topology.now.flows list channels own
    c.in_ok-channels.ensures answers in
    record {
      count = length-push c.loop-list.wants.items c.push.new.self.items
          own c.loop-list.list-index c.in_ok-push.ensures.items
          c.loop-list.invariant.count;
      each = related_at_each_index-pushed_list (AreWanted c.args.topology.now.flows) c.args.reports.now
          c.loop-list.wants.items c.push.new.self.items list own c.loop-list.list-index
          c.in_ok-push.ensures.items c.loop-list.invariant.count found wanted c.loop-list.invariant.each;
    }
