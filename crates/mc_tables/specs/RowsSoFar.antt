-- A cache whose text comes in pieces: what it is read as. Of its (S,G) rows only those are kept
-- whose source and group are listed; its other rows are all kept.
use Rattle.std.specs.Prelude.{ℕ, ◌+◌, List, [], ◌∷◌, ◌++◌}
use Rattle.std.specs.Prelude.{Result, Ok, Err, if◌then◌else◌, codes, refl}
use Rattle.std.specs.Coded.{Coded, code_by, coded×, coded_list, coded_ℕ}
use Rattle.mc_text.specs.declared.text.addr.Order.{Order}
use Rattle.mc_text.specs.Lines.{LineText}
use Rattle.mc_tables.specs.declared.fault.TableFault.{TableFault}
use Rattle.mc_tables.specs.declared.fault.TableFaultKind.{TableFaultKind}
use Rattle.mc_text.specs.Steps.{◌>>=◌}
use Rattle.mc_tables.specs.Steps.{at_line}
use Rattle.mc_tables.specs.TableSoFar.{TableSoFar, table_start, table_if}
use Rattle.mc_tables.specs.CacheTable.{RowValue, CacheValue, cache_code, table_of}
use Rattle.mc_tables.specs.CacheNumbers.{KeptRowsValue}
use Rattle.mc_tables.specs.ListedRows.{Listed, ListedSet, listed_set, is_kept_by_set}
use Rattle.mc_tables.specs.UnlistedRows.{UnlistedRow, without_repeat}
use Rattle.mc_tables.specs.CacheSteps.{row_with_room, row_added}

-- ---- row by row

-- the rows so far: the table of those that are kept, the keys and lines of those that aren't, and
-- how many they are together
pub record RowsSoFar : Type 0 where
  pub table : CacheValue
  pub others : List UnlistedRow
  pub count : ℕ

-- the rows so far, from what is stored of them
abbrev pub rows_of_parts : KeptRowsValue → List UnlistedRow → ℕ → RowsSoFar
rows_of_parts kept others count = record { table = kept.table; others = others; count = count }

-- the rows so far are stored as their fields
abbrev pub rows_code : Coded RowsSoFar
rows_code =
    code_by (CacheValue × (List UnlistedRow × ℕ))
    (coded× cache_code (coded× (coded_list (coded× (coded× coded_ℕ coded_ℕ) coded_ℕ)) coded_ℕ))
    (λ rows. (rows.table, (rows.others, rows.count)))
    (λ stored. record { table = stored.0; others = stored.1.0; count = stored.1.1 }) (λ _. refl)

-- the rows with one more that isn't kept; an earlier one may have its key
abbrev pub unlisted_added : RowsSoFar → ℕ × ℕ → ℕ → RowsSoFar
unlisted_added rows key line =
    record rows { others = rows.others ++ (key, line) ∷ []; count = rows.count + 1 }

-- the rows with one more that is kept; the source and the group of an (S,G) row have to be new
abbrev pub kept_added : RowsSoFar → RowValue → Result RowsSoFar TableFaultKind
kept_added rows row =
    row_added rows.table row >>= λ table.
    Ok (record rows { table = table; count = rows.count + 1 })

-- the rows with one more, kept or not, which is on this line
abbrev pub any_row_added : ListedSet → RowsSoFar → RowValue → ℕ → Result RowsSoFar TableFaultKind
any_row_added listed rows row line =
    if is_kept_by_set listed row then kept_added rows row
    else Ok (unlisted_added rows (row.origin, row.group) line)

-- ---- line by line

-- the rows so far of a cache whose addresses are printed in this byte order, where these keys are
-- listed
pub record ListedRowsSoFar : Type 0 where
  pub order : Order
  pub listed : ListedSet
  pub rows : RowsSoFar

-- the state before the first row
abbrev pub rows_start : Order → ListedSet → ListedRowsSoFar
rows_start order listed = record {
  order = order;
  listed = listed;
  rows = record { table = table_of []; others = []; count = 0 };
}

-- the rows with one more, which is on this line
abbrev pub row_added_so_far : ListedRowsSoFar → RowValue → ℕ → Result ListedRowsSoFar TableFaultKind
row_added_so_far so_far row line =
    any_row_added so_far.listed so_far.rows row line >>= λ rows.
    Ok (record so_far { rows = rows })

-- the rows with that of one more line, or the kind of its fault
abbrev pub line_added : ListedRowsSoFar → LineText → Result ListedRowsSoFar TableFaultKind
line_added so_far line =
    row_with_room so_far.order so_far.rows.count line >>= λ row.
    row_added_so_far so_far row line.number

-- A fault is the first one only if no row before its line repeats another. Otherwise the fault of
-- the first row that does comes in its place.
abbrev pub first_fault : {A : Type 0} → List UnlistedRow → Result A TableFault → Result A TableFault
first_fault others (Ok value) = Ok value
first_fault others (Err fault) = without_repeat others >>= λ _. Err fault

-- the first of two faults, of which the first may be absent
abbrev pub first_of_faults : Result (Unit {0}) TableFault → TableFault → TableFault
first_of_faults (Ok u) fault = fault
first_of_faults (Err first) fault = first

-- the first fault of a text that has one of this kind at a line, after `others`, of which one may
-- repeat another
abbrev pub refusal_at : List UnlistedRow → ℕ → TableFaultKind → TableFault
refusal_at others line kind =
    first_of_faults (without_repeat others) (record { line = line; kind = kind })

-- the rows with that of one more line, or the first fault
abbrev pub row_step : ListedRowsSoFar → LineText → Result ListedRowsSoFar TableFault
row_step so_far line = first_fault so_far.rows.others (at_line line.number (line_added so_far line))

-- the table of these rows and of those of the lines after them, or the first fault
abbrev pub table_from : ListedRowsSoFar → List LineText → Result CacheValue TableFault
table_from so_far [] = without_repeat so_far.rows.others >>= λ _. Ok so_far.rows.table
table_from so_far (line ∷ lines) = row_step so_far line >>= λ more. table_from more lines

-- ---- how far reading has come

-- the state of reading a cache
abbrev pub CacheSoFar : Type 0
CacheSoFar = TableSoFar ListedRowsSoFar

-- the state before the first byte, where these keys are listed
abbrev pub cache_start : Order → Listed → CacheSoFar
cache_start order listed = table_start (rows_start order (listed_set listed))

-- what reading ends with if the bytes `more` come: the table, or the first fault
abbrev pub cache_if : CacheSoFar → List ℕ → Result CacheValue TableFault
cache_if cache more = table_if (codes "Group") table_from cache more
