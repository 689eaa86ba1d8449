use Rattle.std.proofs.Common.{[], length, ap, arith}
use Rattle.std.proofs.lemmas.List.{length-append}
use Rattle.mc_igmp.proofs.RecordsLemmas.{records_in-append, length-after_records}
use Rattle.mc_igmp.proofs.record_bytes.RecordBytes.append_bytes.Goals as goal

-- Each record has eight bytes at least, so that there are fewer records than bytes.
pub overflow_add-self : goal.overflow_add-self
overflow_add-self c =
    let kept = length-after_records 1 c.self.inside.count c.self.inside.bytes.items [] c.self.invariant in
    let added = length-after_records 1 c.args.count c.args.bytes.now [] c.requires.whole in
    let all = length-append c.self.inside.bytes.items c.args.bytes.now in
    let ok = c.extend_from_slice.new.self.ok in
    let small = c.extend_from_slice.new.self.small in
    omega (arith, kept, added, ok, small, ap length c.in_ok-extend_from_slice.ensures.items, all)

-- Whole records with whole records behind them are whole records.
pub invariant_of-self-2 : goal.invariant_of-self-2
invariant_of-self-2 c = rw c.in_ok-extend_from_slice.ensures.items (records_in-append 1
    c.self.inside.count _ c.self.inside.bytes.items _ [] [] c.self.invariant c.requires.whole).0

-- The records of both, one after the other, are those of the bytes one after the other.
pub returns : goal.returns
returns c = record {
  appended = (rw (c.in_ok-extend_from_slice.ensures.items, ← c.self.view_is) (records_in-append 1
      c.self.inside.count _ c.self.inside.bytes.items _ [] [] c.self.invariant c.requires.whole).1);
}
