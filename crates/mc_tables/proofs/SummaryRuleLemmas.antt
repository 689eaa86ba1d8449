-- The rules of a cache's summary while its rows are read.
use Rattle.std.proofs.Common.{◌≡◌, ℕ, Bool, true, false, cond, eqb, List, Option, Some, None, Result, Ok}
use Rattle.std.proofs.Common.{Err, refl, sym, subst}
use Rattle.std.specs.Prelude.{◌&&◌, IfSome, is_some, not}
use Rattle.std.specs.FinMap as map
use Rattle.std.specs.Option.{option_map}
use Rattle.mc_text.specs.declared.text.addr.Order.{Order}
use Rattle.mc_text.specs.Lines.{LineText, words_of}
use Rattle.mc_tables.specs.declared.fault.TableFaultKind.{TableFaultKind}
use Rattle.mc_tables.specs.CacheTable.{EntryValue, IsValidCache, IsValidEntry, RowValue, key_cmp, key_of}
use Rattle.mc_tables.specs.CacheTable.{same_key}
use Rattle.mc_tables.specs.CacheNumbers.{KeptRowsValue}
use Rattle.mc_tables.specs.CacheReading.{row_in_words}
use Rattle.mc_tables.specs.ListedRows.{set_has_key}
use Rattle.mc_tables.specs.RowsSoFar.{ListedRowsSoFar, line_added}
use Rattle.mc_tables.specs.Summary.{HasValidEntries, every_source_entry}
use Rattle.mc_tables.specs.Summary.{unresolved_key}
use Rattle.mc_tables.specs.SummarySoFar.{SummarySoFar, summary_with_every_source, summary_with_exact}
use Rattle.mc_tables.specs.SummarySoFar.{with_entry_if_new}
use Rattle.mc_tables.specs.SummarySoFar.{summary_with_line, empty_summary, summary_with_read}
use Rattle.mc_tables.specs.SummarySoFar.{summary_with_row, finished_summary}
use Rattle.mc_tables.specs.SummarySoFar.{summary_with_unlisted, summary_with_unresolved, with_first_entry}
use Rattle.mc_tables.proofs.CacheLemmas.{key_cmp-total, row_in_words-denotes}
use Rattle.mc_tables.proofs.EntryLemmas.{row_entry-is_valid}
use Rattle.mc_tables.proofs.RowRuleLemmas.{line_added_keeps_valid_cache}

-- the first entries are valid
abbrev HasValidFirstEntries : KeptRowsValue → Type 0
HasValidFirstEntries first = (key : ℕ × ℕ) → IfSome (map.get first.table.entries key) IsValidEntry

-- they stay valid with one more valid entry
first_entries-push : (first : KeptRowsValue) (key : ℕ × ℕ) (entry : EntryValue) → IsValidEntry entry
    → HasValidFirstEntries first → HasValidFirstEntries (with_entry_if_new first key entry)
first_entries-push first key entry valid all =
    elim (set_has_key first.listed key && not (is_some (map.get first.table.entries key))) as (λ b.
    HasValidFirstEntries (cond b (with_first_entry first key entry) first)) [
      | true ↦ λ q. subst (λ (o : Option EntryValue). IfSome o IsValidEntry)
          (sym (map.get-insert key_cmp-total first.table.entries key entry q))
          (elim (same_key q key) as
          (λ b. IfSome (cond b (Some entry) (map.get first.table.entries q)) IsValidEntry) [
            | true ↦ valid
            | false ↦ all q
          ])
      | false ↦ all
    ]

-- with one more row that may be for every source
first_entries-every_source : (summary : SummarySoFar) (row : RowValue) (b : Bool) (entry : Option EntryValue)
    → IfSome entry IsValidEntry → HasValidFirstEntries summary.first
    → HasValidFirstEntries (summary_with_every_source summary
    (cond b (option_map (λ e. ((row.origin, row.group), e)) entry) None)).first
first_entries-every_source summary row false entry valid all = all
first_entries-every_source summary row true None valid all = all
first_entries-every_source summary row true (Some entry) valid all =
    first_entries-push summary.first (row.origin, row.group) entry valid all

-- other rows change none of them
summary_with_unresolved-first : (summary : SummarySoFar) (own : Option (ℕ × ℕ))
    → (summary_with_unresolved summary own).first ≡ summary.first
summary_with_unresolved-first summary None = refl
summary_with_unresolved-first summary (Some key) = refl

summary_with_exact-first : (summary : SummarySoFar) (own : Option (ℕ × ℕ))
    → (summary_with_exact summary own).first ≡ summary.first
summary_with_exact-first summary None = refl
summary_with_exact-first summary (Some key) =
    elim (set_has_key summary.listed key) as (λ b.
    (cond b summary (summary_with_unlisted summary key)).first ≡ summary.first) [
      | true ↦ refl
      | false ↦ refl
    ]

-- with one more row
summary_with_row-keeps_valid : (summary : SummarySoFar) (row : RowValue) → IfSome row.entry IsValidEntry
    → HasValidFirstEntries summary.first
    → HasValidFirstEntries (summary_with_row summary row).first
summary_with_row-keeps_valid summary row valid all =
    let seen = summary_with_unresolved summary (unresolved_key row) in
    subst HasValidFirstEntries
    (sym (summary_with_exact-first (summary_with_every_source seen (every_source_entry row))
    (key_of row)))
    (first_entries-every_source seen row (eqb row.origin 0) row.entry valid
    (subst HasValidFirstEntries (sym (summary_with_unresolved-first summary (unresolved_key row))) all))

-- with the row that a line is read as
summary_with_read-keeps_valid : (order : Order) (words : List (List ℕ)) (summary : SummarySoFar)
    (read : Result RowValue TableFaultKind) → row_in_words order words ≡ read
    → HasValidFirstEntries summary.first → HasValidFirstEntries (summary_with_read summary read).first
summary_with_read-keeps_valid order words summary (Err kind) is all = all
summary_with_read-keeps_valid order words summary (Ok row) is all =
    summary_with_row-keeps_valid summary row
    (row_entry-is_valid order words row (row_in_words-denotes order words row is)) all

-- the table and the summary stay valid when the row of a line is added
pub summary_with_line-keeps_valid : (so_far new : ListedRowsSoFar) (summary more : SummarySoFar)
    (line : LineText)
    → line_added so_far line ≡ Ok new → more ≡ summary_with_line so_far.order summary line
    → IsValidCache so_far.rows.table × HasValidEntries (finished_summary summary)
    → IsValidCache new.rows.table × HasValidEntries (finished_summary more)
summary_with_line-keeps_valid so_far new summary more line added summarized valid_before = (
  line_added_keeps_valid_cache so_far new line added valid_before.0,
  subst (λ (n : SummarySoFar). HasValidEntries (finished_summary n)) (sym summarized)
      (summary_with_read-keeps_valid so_far.order (words_of line.bytes) summary
      (row_in_words so_far.order (words_of line.bytes)) refl valid_before.1),
)

-- the summary of no rows is valid
pub empty_summary-is_valid : (all : Bool) (listed : List (ℕ × ℕ))
    → HasValidEntries (finished_summary (empty_summary all listed))
empty_summary-is_valid all listed = λ key.
    subst (λ (o : Option EntryValue). IfSome o IsValidEntry) (sym (map.get-empty key_cmp key)) tt
