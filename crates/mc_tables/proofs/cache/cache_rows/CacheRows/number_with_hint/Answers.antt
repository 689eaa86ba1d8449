use Rattle.std.proofs.Common.{◌≡◌, ◌<◌, ℕ, ◌∙◌, sym, ap, subst, length, Option}
use Rattle.std.specs.Prelude.{IfSome, slice_get, option_and_then}
use Rattle.std.specs.FinMap as map
use Rattle.mc_tables.specs.CacheNumbers.{KeptRowsValue, entries_by_key}
use Rattle.mc_tables.specs.FlatRows.{entries_of}
use Rattle.mc_tables.proofs.CacheMapLemmas.{lookup-entries_by_key, lookup-from_entries}
use Rattle.mc_tables.proofs.cache.cache_rows.CacheRows.number_with_hint.Goals as goal

-- Each number is that of an entry.
pub returns-clause-within : goal.returns-clause-within
returns-clause-within c =
    let key : ℕ × ℕ = (c.args.source, c.args.group) in
    let es = entries_of c.self.inside.entries.lists in
    subst (λ (t : KeptRowsValue). IfSome c.number_with_hint.result
    (λ number. number < length t.table.numbered))
    c.self.view_is
    (subst (λ (o : Option ℕ). IfSome o (λ number. number < length es))
    (sym c.number_with_hint.ensures) (c.self.invariant key))

-- The table's map has for each key the entry with the key's number.
pub returns-clause-entry : goal.returns-clause-entry
returns-clause-entry c =
    let key : ℕ × ℕ = (c.args.source, c.args.group) in
    let es = entries_of c.self.inside.entries.lists in
    let numbers = c.self.inside.numbers.numbers in
    subst (λ (t : KeptRowsValue). option_and_then (slice_get t.table.numbered) c.number_with_hint.result
    ≡ map.get t.table.entries key) c.self.view_is
    (ap (option_and_then (slice_get es)) c.number_with_hint.ensures
    ∙ sym (lookup-entries_by_key key numbers es (c.self.invariant key))
    ∙ lookup-from_entries key (entries_by_key numbers es))
