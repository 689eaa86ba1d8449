-- A cache of which each row is handed on: where the whole text is read, all of its rows are.
use Rattle.std.proofs.Common.{◌≡◌, ℕ, Bool, List, [], ◌∷◌, ◌++◌, Ok, Err, Some, None, cond, true, false}
use Rattle.std.proofs.Common.{length, refl, sym}
use Rattle.std.proofs.Common.{ap, inl, inr, ◌∙◌}
use Rattle.std.specs.Prelude.{codes, nat_lt}
use Rattle.mc_text.specs.declared.text.addr.Order.{Order}
use Rattle.mc_text.specs.Lines.{LineText, lines_of, words_of}
use Rattle.mc_text.specs.Steps.{◌>>=◌}
use Rattle.mc_tables.specs.declared.fault.TableFault.{TableFault}
use Rattle.mc_tables.specs.declared.fault.TableFaultKind.TheVariants.{TooLarge}
use Rattle.mc_tables.specs.CacheTable.{EntryValue, RowValue}
use Rattle.mc_tables.specs.CacheReading.{cache_rows_in, row_at_line, row_in_line, row_in_words}
use Rattle.mc_tables.specs.EachRow.{PassesOverOthers, each_row_added, each_row_from, each_row_if}
use Rattle.mc_tables.specs.EachRow.{is_passed_over}
use Rattle.mc_tables.specs.EachRow.{key_in_words, with_entry, with_row, with_rows}
use Rattle.mc_tables.specs.TableLines.{lines_after_header, lines_in, rows_after}
use Rattle.mc_tables.specs.TableSoFar.{table_start}
use Rattle.std.proofs.lemmas.Bool.{cases_Bool, not-true}
use Rattle.mc_tables.proofs.AddressLemmas.{address_in-from_denotes}
use Rattle.mc_text.proofs.StepLemmas.{bind_ok, ok_injective}
use Rattle.mc_tables.proofs.StepLemmas.{at_line-ok}
use Rattle.mc_tables.proofs.CacheLemmas.{row_in_line-denotes, row_in_words-denotes}
use Rattle.mc_tables.proofs.SummaryLemmas.{row_in_line-words}

-- one more row after others
with_rows-push : {V : Type 0} (after : V → ℕ × ℕ → EntryValue → V) (made : V) (rows : List RowValue)
    (row : RowValue)
    → with_rows after made (rows ++ row ∷ []) ≡ with_row after (with_rows after made rows) row
with_rows-push after made [] row = refl
with_rows-push after made (r ∷ rows) row = with_rows-push after (with_row after made r) rows row

-- the row of a line that is read after others is read of its words alone, and the line has its end
row_in_words-is : (order : Order) (earlier : List RowValue) (line : LineText) (row : RowValue)
    → row_in_line order earlier line ≡ Ok row
    → (line.ended ≡ true) × (row_in_words order (words_of line.bytes) ≡ Ok row)
row_in_words-is order earlier line row is = (
  (row_in_line-denotes order earlier line row is).0.ended,
  row_in_line-words order earlier line row is,
)

-- the key of a row that is read is that of its words
key_in_words-of_row : (order : Order) (words : List (List ℕ)) (row : RowValue)
    → row_in_words order words ≡ Ok row → key_in_words order words ≡ Some (row.origin, row.group)
unfolding row_in_words
key_in_words-of_row order (group ∷ origin ∷ iif ∷ packets ∷ bytes ∷ wrong_if ∷ outgoing) row is =
    let denoted = row_in_words-denotes order
    (group ∷ origin ∷ iif ∷ packets ∷ bytes ∷ wrong_if ∷ outgoing) row is in
    rw (
      address_in-from_denotes order group row.group denoted.0,
      address_in-from_denotes order origin row.origin denoted.1,
    ) refl
key_in_words-of_row order words row is = absurd cc

-- a row that is passed over would change nothing
with_row-passed_over : {V : Type 0} (concerns : V → ℕ × ℕ → Bool) (after : V → ℕ × ℕ → EntryValue → V)
    → PassesOverOthers concerns after → (made : V) (row : RowValue)
    → is_passed_over concerns made (Some (row.origin, row.group)) ≡ true → made ≡ with_row after made row
with_row-passed_over concerns after others made row is =
    elim row.entry as (λ entry. made ≡ with_entry after made (row.origin, row.group) entry) [
      | None ↦ refl
      | Some entry ↦
          sym (others made (row.origin, row.group) entry
          (not-true (concerns made (row.origin, row.group)) is))
    ]

-- a line whose row is read: what is made is as if it was handed on
each_row_added-row : {V : Type 0} (concerns : V → ℕ × ℕ → Bool) (after : V → ℕ × ℕ → EntryValue → V)
    → PassesOverOthers concerns after → (order : Order) (made : V) (earlier : List RowValue)
    (line : LineText) (row : RowValue) → row_in_line order earlier line ≡ Ok row
    → each_row_added concerns after (record { order = order; made = made }) line
    ≡ Ok (record { order = order; made = with_row after made row })
each_row_added-row {V} concerns after others order made earlier line row is =
    let read = row_in_words-is order earlier line row is in
    let key = key_in_words-of_row order (words_of line.bytes) row read.1 in
    elim (cases_Bool (is_passed_over concerns made (Some (row.origin, row.group)))) [
      | inl passed ↦
          rw (read.0, key, passed)
          (ap (λ (m : V). Ok (record { order = order; made = m }))
          (with_row-passed_over concerns after others made row passed))
      | inr taken ↦ rw (read.0, key, taken, read.1) refl
    ]

-- the lines after those of some rows
pub each_row_from-rows : {V : Type 0} (concerns : V → ℕ × ℕ → Bool) (after : V → ℕ × ℕ → EntryValue → V)
    → PassesOverOthers concerns after → (order : Order) (made : V) (lines : List LineText)
    (earlier rows : List RowValue) → rows_after (row_at_line order) earlier lines ≡ Ok rows
    → each_row_from concerns after (record { order = order; made = with_rows after made earlier }) lines
    ≡ Ok (with_rows after made rows)
each_row_from-rows concerns after others order made [] earlier rows is =
    ap (λ rs. Ok (with_rows after made rs)) (ok_injective {E = TableFault} earlier rows is)
each_row_from-rows concerns after others order made (line ∷ lines) earlier rows is =
    let read = bind_ok (row_at_line order earlier line)
    (λ row. rows_after (row_at_line order) (earlier ++ row ∷ []) lines) rows is in
    let row = read.0 in
    let one = each_row_added-row concerns after others order (with_rows after made earlier) earlier line row
    (at_line-ok line.number (row_in_line order earlier line) row read.1) in
    let later = each_row_from-rows concerns after others order made lines (earlier ++ row ∷ []) rows read.2 in
    rw (one, sym (with_rows-push after made earlier row)) later

-- lines that are read of a text are those after its header
lines_in-after_header : (first text : List ℕ) (lines : List LineText) → lines_in first text ≡ Ok lines
    → lines_after_header first (lines_of text) ≡ Ok lines
lines_in-after_header first text lines =
    elim (nat_lt 16777216 (length text)) as (λ b.
    cond b (Err (record { line = 0; kind = TooLarge })) (lines_after_header first (lines_of text)) ≡ Ok lines
    → lines_after_header first (lines_of text) ≡ Ok lines) [
      | true ↦ λ is. absurd cc
      | false ↦ λ is. is
    ]

-- and a whole text
pub each_row_if-rows : {V : Type 0} (concerns : V → ℕ × ℕ → Bool) (after : V → ℕ × ℕ → EntryValue → V)
    → PassesOverOthers concerns after → (order : Order) (made : V)
    (text : List ℕ) (rows : List RowValue) → cache_rows_in order text ≡ Ok rows
    → each_row_if concerns after (table_start (record { order = order; made = made })) text
    ≡ Ok (with_rows after made rows)
each_row_if-rows concerns after others order made text rows is =
    let lines = bind_ok (lines_in (codes "Group") text) (rows_after (row_at_line order) []) rows is in
    ap (λ r. r >>= each_row_from concerns after (record { order = order; made = made }))
    (lines_in-after_header (codes "Group") text lines.0 lines.1)
    ∙ each_row_from-rows concerns after others order made lines.0 [] rows lines.2
