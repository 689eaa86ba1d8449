use Rattle.std.proofs.Common.{subst}
use Rattle.mc_tables.specs.CacheTable.{EntryValue}
use Rattle.mc_tables.specs.CacheNumbers.{KeptRowsValue}
use Rattle.mc_tables.specs.SummarySoFar.{IsEntryInserted}
use Rattle.mc_tables.proofs.EntryInsertedLemmas.{entry_inserted-of_lists, kept_of_lists}
use Rattle.mc_tables.proofs.cache.cache_rows.CacheRows.insert_entry.Goals as goal

-- What becomes of the key's number says what becomes of the entry.
pub returns-clause-inserted : goal.returns-clause-inserted
returns-clause-inserted c =
    let entry : EntryValue = record { iif = c.args.iif; oifs = c.args.oifs.now } in
    let lists = c.self.inside.entries.lists in
    let more = c.add_entry.new.entries.lists in
    let groups = c.self.inside.groups.items in
    subst (λ (kept : KeptRowsValue). IsEntryInserted c.args.key.now entry kept
    (kept_of_lists c.add_entry.new.self more groups) c.in_ok-inserted.inserted) c.self.view_is
    (entry_inserted-of_lists c.args.key.now c.args.iif c.args.oifs.now c.self.inside.numbers
    c.add_entry.new.self lists more groups c.in_ok-inserted.inserted c.self.invariant
    c.in_ok-inserted.ensures.numbered c.in_ok-inserted.ensures.lists)
