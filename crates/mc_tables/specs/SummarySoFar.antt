-- The summary of a cache that grows row by row, while the rows are read.
use Rattle.std.specs.Prelude.{◌≡◌, Bool, ℕ, ◌+◌, ◌&&◌, true, false, not, List, [], ◌∷◌, ◌++◌}
use Rattle.std.specs.Prelude.{map as map_list, Option, Some, None, is_some, Result, Ok, Err}
use Rattle.std.specs.Prelude.{if◌then◌else◌}
use Rattle.std.specs.FinMap as map
use Rattle.std.specs.FinSet as set
use Rattle.std.specs.declared.cmp.Ordering.{Ordering}
use Rattle.std.specs.declared.cmp.Ordering.TheVariants.{Less, Equal, Greater}
use Rattle.mc_text.specs.declared.text.addr.Order.{Order}
use Rattle.mc_text.specs.Lines.{LineText, words_of}
use Rattle.mc_tables.specs.declared.fault.TableFaultKind.{TableFaultKind}
use Rattle.mc_tables.specs.declared.listed.listed_entry_numbers.Inserted.{Inserted}
use Rattle.mc_tables.specs.declared.listed.listed_entry_numbers.Inserted.TheVariants.{New, Repeated, Unlisted}
use Rattle.mc_tables.specs.CacheTable.{EntryValue, RowValue, key_cmp, key_of, table_of}
use Rattle.mc_tables.specs.CacheNumbers.{KeptRowsValue}
use Rattle.mc_tables.specs.CacheReading.{row_in_words}
use Rattle.mc_tables.specs.ListedRows.{ListedSet, set_has_key, listed_set}
use Rattle.mc_tables.specs.Summary.{unresolved_key, every_source_entry, keys_for_every_source}
use Rattle.mc_tables.specs.Summary.{group_first, shown_pairs, SummaryValue}

-- ---- one more entry

-- what is kept, with the entry of a key that has none
abbrev pub with_first_entry : KeptRowsValue → ℕ × ℕ → EntryValue → KeptRowsValue
with_first_entry kept key entry = record kept {
  table = record kept.table {
    entries = map.insert kept.table.entries key entry;
    numbered = kept.table.numbered ++ entry ∷ [];
  };
}

-- What the answer says of the insertion of an entry: `New`, the listed key had none and has it now;
-- `Repeated`, it had one already; `Unlisted`, the key isn't listed. But for the first nothing
-- changes.
abbrev pub IsEntryInserted : ℕ × ℕ → EntryValue → (old new : KeptRowsValue) → Inserted → Type 0
IsEntryInserted key entry old new New =
    (set_has_key old.listed key ≡ true) × (is_some (map.get old.table.entries key) ≡ false)
    × (new ≡ with_first_entry old key entry)
IsEntryInserted key entry old new Repeated =
    (set_has_key old.listed key ≡ true) × (is_some (map.get old.table.entries key) ≡ true) × (new ≡ old)
IsEntryInserted key entry old new Unlisted = (set_has_key old.listed key ≡ false) × (new ≡ old)

-- what is kept, with the entry of a key, if the key is listed and has none
abbrev pub with_entry_if_new : KeptRowsValue → ℕ × ℕ → EntryValue → KeptRowsValue
with_entry_if_new kept key entry =
    if set_has_key kept.listed key && not (is_some (map.get kept.table.entries key))
    then with_first_entry kept key entry else kept

-- ---- the lowest pairs

-- The ascending pairs `first` and `others` with one more pair, which is less than the first, equal to
-- it or greater. It comes first if it is less, and changes nothing if it is equal; if it is greater,
-- `put` has it among the others.
abbrev pub put_at : Ordering → (pair first : ℕ × ℕ) (others put : List (ℕ × ℕ)) → List (ℕ × ℕ)
put_at Less pair first others put = pair ∷ first ∷ others
put_at Equal pair first others put = first ∷ others
put_at Greater pair first others put = first ∷ put

-- ascending pairs with one more at its place, if it isn't among them
abbrev pub put_pair : ℕ × ℕ → List (ℕ × ℕ) → List (ℕ × ℕ)
put_pair pair [] = pair ∷ []
put_pair pair (first ∷ others) = put_at (key_cmp pair first) pair first others (put_pair pair others)

-- whether all pairs are kept or only the lowest 20, and those that are kept, in ascending order,
-- each of them once
pub record KeptPairs : Type 0 where
  pub all : Bool
  pub pairs : List (ℕ × ℕ)

-- what is kept after one more pair
abbrev pub with_pair : ℕ × ℕ → KeptPairs → KeptPairs
with_pair pair kept = record kept { pairs = shown_pairs kept.all (put_pair pair kept.pairs) }

-- ---- row by row

-- The listed keys, and those of them that an unresolved row has; the first (*,G) rows; how many
-- (S,G) rows have other keys, and which of these keys are kept.
pub record SummarySoFar : Type 0 where
  pub listed : ListedSet
  pub unresolved : set.FinSet key_cmp
  pub first : KeptRowsValue
  pub unlisted : ℕ
  pub lowest : KeptPairs

-- the summary of no rows
abbrev pub empty_summary : (all : Bool) → List (ℕ × ℕ) → SummarySoFar
empty_summary all listed = record {
  listed = listed_set (Some listed);
  unresolved = set.empty;
  first = record {
    table = table_of [];
    listed = listed_set (Some (keys_for_every_source listed));
    groups = [];
  };
  unlisted = 0;
  lowest = record { all = all; pairs = [] };
}

-- the summary with one more row, by its key if it is unresolved
abbrev pub summary_with_unresolved : SummarySoFar → Option (ℕ × ℕ) → SummarySoFar
summary_with_unresolved summary None = summary
summary_with_unresolved summary (Some key) = record summary {
  unresolved =
      if set_has_key summary.listed key then set.insert summary.unresolved key
      else summary.unresolved;
}

-- the summary with one more row, by its key and entry if it is a (*,G) row
abbrev pub summary_with_every_source : SummarySoFar → Option ((ℕ × ℕ) × EntryValue) → SummarySoFar
summary_with_every_source summary None = summary
summary_with_every_source summary (Some exact) =
    record summary { first = with_entry_if_new summary.first exact.0 exact.1 }

-- the summary with one more (S,G) row whose key isn't listed
abbrev pub summary_with_unlisted : SummarySoFar → ℕ × ℕ → SummarySoFar
summary_with_unlisted summary key = record summary {
  unlisted = summary.unlisted + 1;
  lowest = with_pair (group_first key) summary.lowest;
}

-- the summary with one more row, by its key if it is an (S,G) row
abbrev pub summary_with_exact : SummarySoFar → Option (ℕ × ℕ) → SummarySoFar
summary_with_exact summary None = summary
summary_with_exact summary (Some key) =
    if set_has_key summary.listed key then summary else summary_with_unlisted summary key

-- the summary with one more row, of whatever kind
abbrev pub summary_with_row : SummarySoFar → RowValue → SummarySoFar
summary_with_row summary row =
    summary_with_exact
    (summary_with_every_source (summary_with_unresolved summary (unresolved_key row))
    (every_source_entry row))
    (key_of row)

-- the summary when all rows have been read
abbrev pub finished_summary : SummarySoFar → SummaryValue
finished_summary summary = record {
  unresolved = summary.unresolved;
  for_every_source = summary.first.table.entries;
  unlisted = summary.unlisted;
  lowest = summary.lowest.pairs;
}

-- The summary, from what is stored of it: the keys of unresolved rows, each with a number; the
-- first (*,G) rows; how many (S,G) rows have unlisted keys, and which of these are kept.
abbrev pub summary_of_parts : List ((ℕ × ℕ) × ℕ) → KeptRowsValue → ℕ → List (ℕ × ℕ) → SummaryValue
summary_of_parts numbers first unlisted lowest = record {
  unresolved = set.from_list (map_list (λ pair. pair.0) numbers);
  for_every_source = first.table.entries;
  unlisted = unlisted;
  lowest = lowest;
}

-- ---- line by line

-- the summary with the row that was read, if one was
abbrev pub summary_with_read : SummarySoFar → Result RowValue TableFaultKind → SummarySoFar
summary_with_read summary (Err kind) = summary
summary_with_read summary (Ok row) = summary_with_row summary row

-- the summary with the row of one more line
abbrev pub summary_with_line : Order → SummarySoFar → LineText → SummarySoFar
summary_with_line order summary line = summary_with_read summary (row_in_words order (words_of line.bytes))

-- the summary with the rows of more lines
abbrev pub summary_of_lines : Order → SummarySoFar → List LineText → SummarySoFar
summary_of_lines order summary [] = summary
summary_of_lines order summary (line ∷ lines) =
    summary_of_lines order (summary_with_line order summary line) lines
