-- A cache whose rows are handed on as they are read, for a caller that keeps only a summary of
-- them. `made` is the summary so far: before the first row it is what the caller begins with, and
-- `after made key entry` is that summary with one more resolved row. `concerns made key` says whether
-- a row of this source and group can change it: one that can't isn't read any further.
use Rattle.std.specs.Prelude.{◌≡◌, ℕ, Bool, false, not, if◌then◌else◌, List, [], ◌∷◌, Option, Some, None}
use Rattle.std.specs.Prelude.{option_map, Result, Ok, codes, fold}
use Rattle.std.specs.Option.{option_and_then}
use Rattle.mc_text.specs.declared.text.addr.Order.{Order}
use Rattle.mc_text.specs.Lines.{LineText, words_of}
use Rattle.mc_text.specs.Steps.{◌>>=◌}
use Rattle.mc_tables.specs.declared.fault.TableFault.{TableFault}
use Rattle.mc_tables.specs.declared.fault.TableFaultKind.{TableFaultKind}
use Rattle.mc_tables.specs.declared.fault.TableFaultKind.TheVariants.{Unended}
use Rattle.mc_tables.specs.CacheTable.{EntryValue, RowValue}
use Rattle.mc_tables.specs.CacheReading.{row_in_words}
use Rattle.mc_tables.specs.Steps.{at_line, demand}
use Rattle.mc_tables.specs.TableWords.{address_in}
use Rattle.mc_tables.specs.TableSoFar.{TableSoFar, table_if}

-- the summary after one more row, of this source and group; an unresolved row changes nothing
abbrev pub with_entry : {V : Type 0} → (V → ℕ × ℕ → EntryValue → V) → V → (key : ℕ × ℕ)
    → Option EntryValue → V
with_entry after made key None = made
with_entry after made key (Some entry) = after made key entry

-- the summary after one more row, which has its key and its entry
abbrev pub with_row : {V : Type 0} → (V → ℕ × ℕ → EntryValue → V) → V → RowValue → V
with_row after made row = with_entry after made (row.origin, row.group) row.entry

-- the summary after these rows, in their order
abbrev pub with_rows : {V : Type 0} → (V → ℕ × ℕ → EntryValue → V) → V → List RowValue → V
with_rows after made rows = fold (with_row after) made rows

-- ---- line by line

-- the source and the group of a row, where its first two words are addresses
abbrev pub key_in_words : Order → List (List ℕ) → Option (ℕ × ℕ)
key_in_words order (group ∷ origin ∷ words) =
    option_and_then (λ group_address. option_map (λ origin_address. (origin_address, group_address))
    (address_in order origin)) (address_in order group)
key_in_words order words = None

-- whether a row of this source and group, if they could be read, is passed over
abbrev pub is_passed_over : {V : Type 0} → (V → ℕ × ℕ → Bool) → V → Option (ℕ × ℕ) → Bool
is_passed_over concerns made None = false
is_passed_over concerns made (Some key) = not (concerns made key)

-- no row that is passed over would change the summary
abbrev pub PassesOverOthers : {V : Type 0} → (V → ℕ × ℕ → Bool) → (V → ℕ × ℕ → EntryValue → V) → Type 0
PassesOverOthers {V} concerns after =
    (made : V) (key : ℕ × ℕ) (entry : EntryValue) → concerns made key ≡ false → after made key entry ≡ made

-- the summary of the rows so far, in which addresses are printed in this byte order
pub record EachRowSoFar (V : Type 0) : Type 0 where
  pub order : Order
  pub made : V

-- the summary after the row that these words are read as, or the kind of their fault
abbrev pub row_of_words_added : {V : Type 0} → (V → ℕ × ℕ → EntryValue → V) → EachRowSoFar V
    → List (List ℕ) → Result (EachRowSoFar V) TableFaultKind
row_of_words_added after so_far words =
    row_in_words so_far.order words >>= λ row. Ok (record so_far { made = with_row after so_far.made row })

-- the summary after the row of one more line, or the kind of the line's fault
abbrev pub each_row_added : {V : Type 0} → (V → ℕ × ℕ → Bool) → (V → ℕ × ℕ → EntryValue → V)
    → EachRowSoFar V → LineText → Result (EachRowSoFar V) TableFaultKind
each_row_added concerns after so_far line = demand line.ended Unended >>= λ _.
    if is_passed_over concerns so_far.made (key_in_words so_far.order (words_of line.bytes)) then Ok so_far
    else row_of_words_added after so_far (words_of line.bytes)

-- the summary after the row of one more line, or the fault at the line
abbrev pub each_row_step : {V : Type 0} → (V → ℕ × ℕ → Bool) → (V → ℕ × ℕ → EntryValue → V)
    → EachRowSoFar V → LineText → Result (EachRowSoFar V) TableFault
each_row_step concerns after so_far line = at_line line.number (each_row_added concerns after so_far line)

-- the summary in the end, after the rows of these lines, or the first fault
abbrev pub each_row_from : {V : Type 0} → (V → ℕ × ℕ → Bool) → (V → ℕ × ℕ → EntryValue → V)
    → EachRowSoFar V → List LineText → Result V TableFault
each_row_from concerns after so_far [] = Ok so_far.made
each_row_from concerns after so_far (line ∷ lines) =
    each_row_step concerns after so_far line >>= λ more. each_row_from concerns after more lines

-- what reading ends with if the bytes `more` come: the summary of all rows, or the first fault
abbrev pub each_row_if : {V : Type 0} → (V → ℕ × ℕ → Bool) → (V → ℕ × ℕ → EntryValue → V)
    → TableSoFar (EachRowSoFar V) → List ℕ → Result V TableFault
each_row_if concerns after so_far more = table_if (codes "Group") (each_row_from concerns after) so_far more
