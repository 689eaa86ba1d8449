-- The rules of a cache's table while its rows are read.
use Rattle.std.proofs.Common.{◌≡◌, ℕ, ◌+◌, Bool, true, false, cond, eqb, List, []}
use Rattle.std.proofs.Common.{Option, Some, None, Ok, refl, sym, ap, subst, ◌∙◌, inl, inr}
use Rattle.std.specs.Prelude.{nat_lt, not, IfSome}
use Rattle.std.specs.Option.{option_map}
use Rattle.std.specs.FinMap as fin
use Rattle.std.specs.FinSet as set
use Rattle.std.specs.Ordering.{nat_cmp}
use Rattle.std.proofs.lemmas.Bool.{cases_Bool}
use Rattle.mc_text.specs.Lines.{LineText, numbered, words_of}
use Rattle.mc_tables.specs.CacheTable.{EntryValue}
use Rattle.mc_tables.specs.declared.fault.TableFaultKind.{TableFaultKind}
use Rattle.mc_tables.specs.declared.fault.TableFaultKind.TheVariants.{Unended, RepeatedEntry}
use Rattle.mc_tables.specs.declared.fault.TableFaultKind.TheVariants.{TooLarge}
use Rattle.mc_text.specs.Steps.{◌>>=◌}
use Rattle.mc_tables.specs.Steps.{demand}
use Rattle.mc_tables.specs.CacheTable.{RowValue, CacheValue, IsValidEntry, IsValidCache, key_cmp, same_key}
use Rattle.mc_tables.specs.CacheTable.{exact_entry, wildcard_group, table_of}
use Rattle.mc_tables.specs.CacheReading.{row_in_words}
use Rattle.mc_tables.specs.CacheSteps.{row_with_room, row_added, has_key, with_exact_entry}
use Rattle.mc_tables.specs.CacheSteps.{with_numbered_entry, with_wildcard_group}
use Rattle.mc_tables.specs.ListedRows.{ListedSet, is_kept_by_set}
use Rattle.mc_tables.specs.RowsSoFar.{RowsSoFar, unlisted_added, kept_added, any_row_added, ListedRowsSoFar}
use Rattle.mc_tables.specs.RowsSoFar.{row_added_so_far, line_added}
use Rattle.mc_text.proofs.StepLemmas.{bind_ok, ok_injective}
use Rattle.mc_tables.proofs.StepLemmas.{demand-bind_ok}
use Rattle.mc_tables.proofs.CacheLemmas.{key_cmp-total, row_in_words-denotes}
use Rattle.mc_tables.proofs.CacheLookupLemmas.{same_key-zero_source}
use Rattle.mc_tables.proofs.EntryLemmas.{row_entry-is_valid}
use Rattle.mc_tables.proofs.TableRuleLemmas.{cache_rows-valid_table}

-- an entry for a source other than 0.0.0.0 may be added if it is valid
insert-keeps_valid_cache : (entries : fin.FinMap key_cmp EntryValue) (source group : ℕ) (entry : EntryValue)
    → eqb source 0 ≡ false → IsValidEntry entry
    → ((key : ℕ × ℕ) → IfSome (fin.get entries key) IsValidEntry)
    → ((other : ℕ) → fin.get entries (0, other) ≡ None)
    → ((key : ℕ × ℕ) → IfSome (fin.get (fin.insert entries (source, group) entry) key) IsValidEntry)
    × ((other : ℕ) → fin.get (fin.insert entries (source, group) entry) (0, other) ≡ None)
insert-keeps_valid_cache entries source group entry apart valid all none = (
  λ key. subst (λ (o : Option EntryValue). IfSome o IsValidEntry)
      (sym (fin.get-insert key_cmp-total entries (source, group) entry key))
      (elim (same_key key (source, group)) as
      (λ b. IfSome (cond b (Some entry) (fin.get entries key)) IsValidEntry) [
        | true ↦ valid
        | false ↦ all key
      ]),
  λ other. fin.get-insert key_cmp-total entries (source, group) entry (0, other)
      ∙ ap (λ b. cond b (Some entry) (fin.get entries (0, other)))
      (same_key-zero_source other source group apart)
      ∙ none other,
)

-- and so may that of a row
exact_entry-keeps_valid_cache : (table : CacheValue) (source group : ℕ) (b : Bool) (entry : Option EntryValue)
    (numbered : List EntryValue) (wildcards : set.FinSet nat_cmp) → eqb source 0 ≡ b
    → IfSome entry IsValidEntry → IsValidCache table
    → IsValidCache (record {
      entries = with_exact_entry table.entries
          (cond b None (option_map (λ e. ((source, group), e)) entry));
      numbered = numbered;
      wildcards = wildcards;
    })
exact_entry-keeps_valid_cache table source group true entry numbered wildcards is valid rules =
    record { entries = rules.entries; sources = rules.sources }
exact_entry-keeps_valid_cache table source group false None numbered wildcards is valid rules =
    record { entries = rules.entries; sources = rules.sources }
exact_entry-keeps_valid_cache table source group false (Some entry) numbered wildcards is valid rules =
    let kept = insert-keeps_valid_cache table.entries source group entry is valid rules.entries rules.sources
    in
    record { entries = kept.0; sources = kept.1 }

-- a valid table stays valid when a row is added
row_added-keeps_valid_cache : (table new : CacheValue) (row : RowValue) → row_added table row ≡ Ok new
    → IfSome row.entry IsValidEntry → IsValidCache table → IsValidCache new
row_added-keeps_valid_cache table new row is valid rules =
    let grown : CacheValue = record {
      entries = with_exact_entry table.entries (exact_entry row);
      numbered = with_numbered_entry table.numbered (exact_entry row);
      wildcards = with_wildcard_group table.wildcards (wildcard_group row);
    } in
    let demanded = demand-bind_ok (not (has_key table.entries (exact_entry row))) RepeatedEntry
    (λ _. Ok grown) new is in
    let keeps : IsValidCache grown =
    exact_entry-keeps_valid_cache table row.origin row.group (eqb row.origin 0) row.entry
    grown.numbered grown.wildcards refl valid rules in
    subst IsValidCache (ok_injective {E = TableFaultKind} grown new demanded.1) keeps

-- and so it does when a row is added that is kept or not
any_row_added-keeps_valid_cache : (listed : ListedSet) (rows new : RowsSoFar) (row : RowValue) (line : ℕ)
    → any_row_added listed rows row line ≡ Ok new → IfSome row.entry IsValidEntry → IsValidCache rows.table
    → IsValidCache new.table
any_row_added-keeps_valid_cache listed rows new row line is valid rules =
    let key : ℕ × ℕ = (row.origin, row.group) in
    elim (cases_Bool (is_kept_by_set listed row)) [
      | inl kept ↦
          let added : kept_added rows row ≡ Ok new =
          sym (ap (λ b. cond b (kept_added rows row) (Ok (unlisted_added rows key line))) kept) ∙ is in
          let make : CacheValue → RowsSoFar = λ t.
          record { table = t; others = rows.others; count = rows.count + 1 } in
          let table = bind_ok (row_added rows.table row) (λ t. Ok (make t)) new added in
          subst IsValidCache
          (ap (λ (r : RowsSoFar). r.table) (ok_injective {E = TableFaultKind} (make table.0) new table.2))
          (row_added-keeps_valid_cache rows.table table.0 row table.1 valid rules)
      | inr other ↦
          let added : Ok (unlisted_added rows key line) ≡ Ok new =
          sym (ap (λ b. cond b (kept_added rows row) (Ok (unlisted_added rows key line))) other) ∙ is in
          subst IsValidCache (ap (λ (r : RowsSoFar). r.table)
          (ok_injective {E = TableFaultKind} (unlisted_added rows key line) new added)) rules
    ]

-- and when the row of a line is
pub line_added_keeps_valid_cache : (so_far new : ListedRowsSoFar) (line : LineText)
    → line_added so_far line ≡ Ok new
    → IsValidCache so_far.rows.table → IsValidCache new.rows.table
line_added_keeps_valid_cache so_far new line is rules =
    let both = bind_ok (row_with_room so_far.order so_far.rows.count line)
    (λ row. row_added_so_far so_far row line.number) new is in
    let row = both.0 in
    let read = both.1 in
    let added = both.2 in
    let make : RowsSoFar → ListedRowsSoFar = λ r.
    record { order = so_far.order; listed = so_far.listed; rows = r } in
    let one = bind_ok (any_row_added so_far.listed so_far.rows row line.number) (λ r. Ok (make r)) new
    added in
    let words = words_of line.bytes in
    let ended = demand-bind_ok line.ended Unended
    (λ _. demand (nat_lt so_far.rows.count 65536) TooLarge
    >>= λ _. row_in_words so_far.order words) row read in
    let room = demand-bind_ok (nat_lt so_far.rows.count 65536) TooLarge
    (λ _. row_in_words so_far.order words) row ended.1 in
    let valid = row_entry-is_valid so_far.order words row
    (row_in_words-denotes so_far.order words row room.1) in
    subst IsValidCache
    (ap (λ (s : ListedRowsSoFar). s.rows.table) (ok_injective {E = TableFaultKind} (make one.0) new one.2))
    (any_row_added-keeps_valid_cache so_far.listed so_far.rows one.0 row line.number one.1 valid rules)

-- the empty table is valid
pub table_of_none-is_valid : IsValidCache (table_of [])
table_of_none-is_valid = cache_rows-valid_table [] tt
