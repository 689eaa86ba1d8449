-- A cache's table that grows row by row, while the lines are read.
use Rattle.std.specs.Prelude.{ℕ, nat_lt, Bool, false, not, List, [], ◌∷◌, ◌++◌, Option, Some, None}
use Rattle.std.specs.Prelude.{is_some, Result, Ok}
use Rattle.std.specs.FinMap as map
use Rattle.std.specs.FinSet as set
use Rattle.std.specs.Ordering.{nat_cmp}
use Rattle.mc_text.specs.declared.text.addr.Order.{Order}
use Rattle.mc_text.specs.Lines.{LineText, words_of}
use Rattle.mc_tables.specs.CacheTable.{EntryValue}
use Rattle.mc_tables.specs.declared.fault.TableFaultKind.{TableFaultKind}
use Rattle.mc_tables.specs.declared.fault.TableFaultKind.TheVariants.{Unended, TooLarge}
use Rattle.mc_tables.specs.declared.fault.TableFaultKind.TheVariants.{RepeatedEntry}
use Rattle.mc_text.specs.Steps.{◌>>=◌}
use Rattle.mc_tables.specs.Steps.{demand}
use Rattle.mc_tables.specs.CacheTable.{RowValue, CacheValue, key_cmp, exact_entry, wildcard_group}
use Rattle.mc_tables.specs.CacheReading.{row_in_words}

-- whether there is an entry, and the map has its key
abbrev pub has_key : map.FinMap key_cmp EntryValue → Option ((ℕ × ℕ) × EntryValue) → Bool
has_key entries None = false
has_key entries (Some exact) = is_some (map.get entries exact.0)

-- the map with one more (S,G) entry, if there is one
abbrev pub with_exact_entry : map.FinMap key_cmp EntryValue → Option ((ℕ × ℕ) × EntryValue)
    → map.FinMap key_cmp EntryValue
with_exact_entry entries None = entries
with_exact_entry entries (Some exact) = map.insert entries exact.0 exact.1

-- the numbered entries with one more at their end, if there is one
abbrev pub with_numbered_entry : List EntryValue → Option ((ℕ × ℕ) × EntryValue) → List EntryValue
with_numbered_entry entries None = entries
with_numbered_entry entries (Some exact) = entries ++ exact.1 ∷ []

-- the groups with that of one more (*,G) row, if there is one
abbrev pub with_wildcard_group : set.FinSet nat_cmp → Option ℕ → set.FinSet nat_cmp
with_wildcard_group groups None = groups
with_wildcard_group groups (Some group) = set.insert groups group

-- the table with one more row; the source and the group of an (S,G) row have to be new
abbrev pub row_added : CacheValue → RowValue → Result CacheValue TableFaultKind
row_added table row = do
  _ ← demand (not (has_key table.entries (exact_entry row))) RepeatedEntry
  Ok (record {
    entries = with_exact_entry table.entries (exact_entry row);
    numbered = with_numbered_entry table.numbered (exact_entry row);
    wildcards = with_wildcard_group table.wildcards (wildcard_group row);
  })

-- the table with one more (S,G) entry, whose source and group have to be new
abbrev pub entry_added : CacheValue → ℕ × ℕ → EntryValue → Result CacheValue TableFaultKind
entry_added table key entry = do
  _ ← demand (not (is_some (map.get table.entries key))) RepeatedEntry
  Ok (record table {
    entries = map.insert table.entries key entry;
    numbered = table.numbered ++ entry ∷ [];
  })

-- the table with one more (*,G) row, of this group
abbrev pub group_added : CacheValue → ℕ → CacheValue
group_added table group = record table { wildcards = set.insert table.wildcards group }

-- the row of a line that comes after `count` others, where at most 65,536 may be in all
abbrev pub row_with_room : Order → ℕ → LineText → Result RowValue TableFaultKind
row_with_room order count line = do
  _ ← demand line.ended Unended
  _ ← demand (nat_lt count 65536) TooLarge
  row_in_words order (words_of line.bytes)
