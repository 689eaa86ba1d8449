-- No record so far reports a change, and so many there were.
use Rattle.std.proofs.Common.{◌≡◌, ◌+◌, length}
use Rattle.mc_igmp.specs.ReadingList.{first_change}
use Rattle.mc_igmp.proofs.list.first_change_of.Given as goal

abbrev pub invariant-loop-record : goal.invariant-loop-record
invariant-loop-record l = record {
  others : first_change (l.number + 1) l.record-iterator ≡ first_change 1 l.fn.records;
  counted : l.number + length l.record-iterator ≡ length l.fn.records;
}
