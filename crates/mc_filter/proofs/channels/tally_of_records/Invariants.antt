use Rattle.std.proofs.Common.{◌≡◌, length}
use Rattle.mc_filter.specs.Tallies.{IsTallyOf, KeepToChannelsUnlessMore}
use Rattle.mc_filter.proofs.channels.tally_of_records.Given as goal

-- The tally counts the records that the iterator has given; those that it still has are left.
abbrev pub invariant-loop-group_record : goal.invariant-loop-group_record
invariant-loop-group_record l = record {
  groups : length l.tally.excludes.items ≡ length l.fn.groups;
  channels : length l.tally.states.items ≡ length l.fn.channels;
  each : IsTallyOf l.fn.groups l.fn.channels l.fn.records l.tally l.group_record-iterator;
  more : KeepToChannelsUnlessMore l.fn.groups l.fn.channels l.fn.records l.tally l.group_record-iterator;
}
