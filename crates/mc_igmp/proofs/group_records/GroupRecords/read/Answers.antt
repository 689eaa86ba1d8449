use Rattle.std.proofs.Common.{arith, refl, sym, subst}
use Rattle.mc_igmp.specs.Records.{HaveNoChanges}
use Rattle.mc_igmp.proofs.RecordsLemmas.{records_in-own_bytes, length-after_records}
use Rattle.mc_igmp.proofs.group_records.GroupRecords.read.Goals as goal

-- What follows the records is no longer than all bytes.
pub slice_bounds-own-count : goal.slice_bounds-own-count
slice_bounds-own-count c =
    omega (arith, length-after_records 1 c.args.count c.args.bytes.now _ c.in_ok-ignored.ensures.0)

-- Without the bytes that follow them, the bytes are whole records, and the same ones.
pub invariant_of-result : goal.invariant_of-result
invariant_of-result c =
    let cut = records_in-own_bytes c.args.count c.args.bytes.now c.in_ok-ignored.ignored.now _
    (λ i. omega (arith, c.type_inv.bytes i)) c.in_ok-ignored.ensures.0 refl in
    rw c.from.ensures
    (cut.0, λ known. subst HaveNoChanges (sym cut.1) (c.in_ok-ignored.ensures.1 known))

-- The records of all bytes are those of their own bytes.
pub returns : goal.returns
returns c =
    let records = (records_in-own_bytes c.args.count c.args.bytes.now c.in_ok-ignored.ignored.now _
    (λ i. omega (arith, c.type_inv.bytes i)) c.in_ok-ignored.ensures.0 refl).1 in
    (c.in_ok-ignored.ignored.now, c.in_ok-ignored.ensures.0, rw c.from.ensures records)
