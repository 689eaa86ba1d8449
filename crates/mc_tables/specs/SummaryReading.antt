-- What a cache's text is read as with a summary of its rows: its table and the summary, or the
-- first fault.
use Rattle.std.specs.Prelude.{Bool, ℕ, List, Some, Result, Ok, Err, codes}
use Rattle.mc_text.specs.declared.text.addr.Order.{Order}
use Rattle.mc_text.specs.Lines.{LineText}
use Rattle.mc_text.specs.Steps.{◌>>=◌}
use Rattle.mc_tables.specs.declared.fault.TableFault.{TableFault}
use Rattle.mc_tables.specs.declared.summary.summarized_cache.SummarizedCache.{SummarizedCache}
use Rattle.mc_tables.specs.TableSoFar.{TableSoFar, table_start, table_if}
use Rattle.mc_tables.specs.CacheTable.{CacheValue, table_of}
use Rattle.mc_tables.specs.CacheReading.{cache_rows_in}
use Rattle.mc_tables.specs.ListedRows.{kept_rows, listed_set}
use Rattle.mc_tables.specs.RowsSoFar.{ListedRowsSoFar, rows_start, row_step, table_from}
use Rattle.mc_tables.specs.Summary.{summary_of}
use Rattle.mc_tables.specs.SummarySoFar.{SummarySoFar, empty_summary, summary_with_line, summary_of_lines}
use Rattle.mc_tables.specs.SummarySoFar.{finished_summary}

-- ---- the text

-- the table of those rows of a text that are kept, and the summary of all its rows, or the first
-- fault
abbrev pub summary_in : (all : Bool) → Order → List (ℕ × ℕ) → List ℕ → Result SummarizedCache TableFault
summary_in all order listed text =
    cache_rows_in order text >>= λ rows.
    Ok (record { table = table_of (kept_rows (Some listed) rows); summary = summary_of all listed rows })

-- the table alone, or the fault
abbrev pub table_without_summary : Result SummarizedCache TableFault → Result CacheValue TableFault
table_without_summary (Ok cache) = Ok cache.table
table_without_summary (Err fault) = Err fault

-- ---- line by line

-- the rows so far, and their summary
pub record SummarizedRowsSoFar : Type 0 where
  pub rows : ListedRowsSoFar
  pub summary : SummarySoFar

-- the rows and the summary with those of one more line, or the first fault
abbrev pub summary_step : SummarizedRowsSoFar → LineText → Result SummarizedRowsSoFar TableFault
summary_step so_far line =
    row_step so_far.rows line >>= λ rows.
    Ok (record { rows = rows; summary = summary_with_line so_far.rows.order so_far.summary line })

-- the table and the summary of these rows and of those of the lines after them, or the first fault
abbrev pub summary_from : SummarizedRowsSoFar → List LineText → Result SummarizedCache TableFault
summary_from so_far lines =
    table_from so_far.rows lines >>= λ table.
    Ok (record {
      table = table;
      summary =
          finished_summary (summary_of_lines so_far.rows.order so_far.summary lines);
    })

-- ---- how far reading has come

-- the state of reading a cache with its summary
abbrev pub SummarizedCacheSoFar : Type 0
SummarizedCacheSoFar = TableSoFar SummarizedRowsSoFar

-- the state before the first row, where these keys are listed
abbrev pub summary_rows_start : (all : Bool) → Order → List (ℕ × ℕ) → SummarizedRowsSoFar
summary_rows_start all order listed =
    record { rows = rows_start order (listed_set (Some listed)); summary = empty_summary all listed }

-- the state before the first byte, where these keys are listed
abbrev pub summary_start : (all : Bool) → Order → List (ℕ × ℕ) → SummarizedCacheSoFar
summary_start all order listed = table_start (summary_rows_start all order listed)

-- what reading ends with if the bytes `more` come: the table and the summary, or the first fault
abbrev pub summary_if : SummarizedCacheSoFar → List ℕ → Result SummarizedCache TableFault
summary_if cache more = table_if (codes "Group") summary_from cache more
