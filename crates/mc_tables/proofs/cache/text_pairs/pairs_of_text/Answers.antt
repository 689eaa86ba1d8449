use Rattle.std.proofs.Common.{◌≡◌, List, [], Some, true, Result, Ok, Err, ap, sym, ◌∙◌}
use Rattle.std.proofs.lemmas.Result.{err_from_is_err_and}
use Rattle.mc_text.proofs.StepLemmas.{ok_injective, err_injective}
use Rattle.mc_text.specs.Steps.{◌>>=◌}
use Rattle.mc_tables.specs.declared.fault.TableFault.{TableFault}
use Rattle.mc_tables.specs.declared.summary.summarized_cache.SummarizedCache.{SummarizedCache}
use Rattle.mc_tables.specs.CacheTable.{RowValue, table_of}
use Rattle.mc_tables.specs.CacheReading.{cache_rows_in}
use Rattle.mc_tables.specs.ListedRows.{kept_rows}
use Rattle.mc_tables.specs.Summary.{summary_of}
use Rattle.mc_tables.proofs.TextPairLemmas.{kept_rows-own_pairs}
use Rattle.mc_tables.proofs.cache.text_pairs.pairs_of_text.Goals as goal

-- what is read of some rows, with nothing listed
abbrev summarized : List RowValue → SummarizedCache
summarized rows = record { table = table_of (kept_rows (Some []) rows); summary = summary_of true [] rows }

-- the fault of the summary is that of the table
fault_of_table : (read : Result (List RowValue) TableFault) (fault : TableFault)
    → (read >>= λ rows. Ok (summarized rows)) ≡ Err fault
    → (read >>= λ rows. Ok (table_of rows)) ≡ Err fault
fault_of_table (Ok rows) fault is = absurd cc
fault_of_table (Err other) fault is = ap Err (err_injective is)

-- With nothing listed the same text is read, so that its fault is the same.
pub returns-in_err-cache-clause-fault : goal.returns-in_err-cache-clause-fault
returns-in_err-cache-clause-fault c =
    let p = err_from_is_err_and c.from_residual.result c.from_residual.ensures.1 in
    rw (p.1, p.2) (λ there.
    fault_of_table (cache_rows_in c.args.order c.args.text.now) _
    (sym (c.in_err-cache.ensures (λ is. there (err_injective is)))))

-- The summary has the sources and groups of all resolved rows,
-- where none is listed: as a list, they keep each row.
pub returns-clause-kept : goal.returns-clause-kept
returns-clause-kept c = λ rows read.
    let cache = c.in_ok-cache.cache in
    let shown = c.lowest_unlisted.result.now in
    let is : Ok cache ≡ Ok (summarized rows) =
    c.in_ok-cache.ensures (λ none. cc)
    ∙ ap (λ (r : Result (List RowValue) TableFault). r >>= λ all. Ok (summarized all)) read in
    let lowest = c.lowest_unlisted.ensures
    ∙ ap (λ (s : SummarizedCache). s.summary.lowest)
    (ok_injective {E = TableFault} cache (summarized rows) is) in
    kept_rows-own_pairs rows shown c.deref.result.now c.in_ok-of.field-0 lowest
    (c.deref.ensures.value ∙ c.in_ok-pairs.ensures) c.in_ok-of.ensures
