use Rattle.mc_tables.specs.CacheTable.{EntryValue}
use Rattle.mc_tables.proofs.SummaryStepLemmas.{entry_inserted-value, entry_inserted-room}
use Rattle.mc_tables.proofs.cache.cache_rows.CacheRows.add_first_entry.Goals as goal

-- Whether the entry was inserted, was there or isn't listed, the
-- table is the one with the first entry of the key.
pub returns-clause-added : goal.returns-clause-added
returns-clause-added c =
    let entry : EntryValue = record { iif = c.args.iif; oifs = c.args.oifs.now } in
    entry_inserted-value c.args.key.now entry c.args.self.now c.insert_entry.new.self
    c.in_ok-insert_entry.field-0
    c.in_ok-insert_entry.ensures.inserted

-- At most one entry is inserted.
pub returns-clause-room : goal.returns-clause-room
returns-clause-room c =
    let entry : EntryValue = record { iif = c.args.iif; oifs = c.args.oifs.now } in
    entry_inserted-room c.args.key.now entry c.args.self.now c.insert_entry.new.self
    c.in_ok-insert_entry.field-0
    c.in_ok-insert_entry.ensures.inserted
