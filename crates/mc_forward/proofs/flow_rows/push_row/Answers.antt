use Rattle.std.proofs.Common.{length, ap, arith, subst}
use Rattle.mc_tables.specs.CacheTable.{EntryValue}
use Rattle.mc_tables.proofs.EntryLemmas.{length_entry_oifs-at_most_32}
use Rattle.mc_forward.specs.RowValues.{HasValidEntry}
use Rattle.mc_forward.proofs.flow_rows.push_row.Goals as goal

-- A valid entry has at most 32 outgoing vifs.
pub push-requires-clause-few : goal.push-requires-clause-few
push-requires-clause-few c =
    let few = length_entry_oifs-at_most_32 c.in-Exact.entry
    (subst HasValidEntry c.in-Exact.is c.requires.valid) in
    omega (arith, few, ap (λ (e : EntryValue). length e.oifs) c.entry.view_is)
