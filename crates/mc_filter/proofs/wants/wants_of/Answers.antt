use Rattle.mc_filter.proofs.wants.wants_of.Goals as goal

-- The builder begins with no record, and the iterator has all of them.
pub loop-group_record-init : goal.loop-group_record-init
loop-group_record-init c =
    rw c.into_iter-group_record-iterator.ensures.into_iter_gives
    (rw c.records-group_record-items.ensures
    (c.none-filter_builder.ensures c.args.reports.now c.args.group))
