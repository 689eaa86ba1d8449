use Rattle.std.proofs.Common.{length, ap, arith}
use Rattle.mc_tables.specs.CacheTable.{EntryValue}
use Rattle.mc_tables.proofs.EntryLemmas.{length_entry_oifs-at_most_32}
use Rattle.mc_forward.proofs.copies.Copies.forward.Goals as goal

-- A valid entry has at most 32 outgoing vifs.
pub send_all-requires : goal.send_all-requires
send_all-requires c = record {
  at_most_32 = (
      let few = length_entry_oifs-at_most_32 c.in-Exact.entry c.in-Exact.ensures.valid in
      omega (arith, few, ap (λ (e : EntryValue). length e.oifs) c.entry.view_is));
}
