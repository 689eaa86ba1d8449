-- What skipping the other records leaves is what skipping all leaves; and if neither the records so far nor
-- the others report a change, none does.
use Rattle.std.proofs.Common.{◌≡◌, ◌+◌, ◌-◌, true}
use Rattle.mc_igmp.specs.Records.{records_in, after_records, HaveNoChanges}
use Rattle.mc_igmp.proofs.group_records.skip_records.Given as goal

abbrev pub invariant-loop-index : goal.invariant-loop-index
invariant-loop-index l = record {
  after : after_records (l.index + 1) (l.count - l.index) l.rest ≡ after_records 1 l.count l.bytes;
  lasting : l.no_changes ≡ true → HaveNoChanges (records_in (l.count - l.index) l.rest)
      → HaveNoChanges (records_in l.count l.bytes);
}
