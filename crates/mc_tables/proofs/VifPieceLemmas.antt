-- Reading a table of vifs in pieces.
use Rattle.std.proofs.Common.{◌≡◌, ℕ, ◌≤◌, false, List, [], ◌∷◌, ◌++◌, Result, Ok, Err}
use Rattle.std.proofs.Common.{refl, ap}
use Rattle.std.specs.List.{IsDistinct}
use Rattle.std.specs.FinMap.{from_entries}
use Rattle.mc_text.specs.Lines.{LineText}
use Rattle.mc_text.proofs.Lists.{AllByRecursion-append}
use Rattle.mc_tables.specs.declared.fault.TableFaultKind.{TableFaultKind}
use Rattle.mc_tables.specs.declared.fault.TableFaultKind.TheVariants.{Unended}
use Rattle.mc_text.specs.Steps.{◌>>=◌}
use Rattle.mc_tables.specs.Steps.{at_line}
use Rattle.mc_tables.specs.TableLines.{rows_after}
use Rattle.mc_tables.specs.VifTable.{VifValue, AreValidVifRows}
use Rattle.mc_tables.specs.VifReading.{vif_in_line, vif_at_line}
use Rattle.mc_tables.specs.VifsSoFar.{vif_step, vifs_from_lines}
use Rattle.mc_tables.proofs.VifLemmas.{vif_at_line-reads_rows, denoted_vifs-at_most_31}
use Rattle.mc_tables.specs.LinesSoFar.{ReadsInSteps}

-- one line and then the others
rows_after-line_first : (n : ℕ) (rows : List (ℕ × VifValue)) (lines : List LineText)
    (read : Result (ℕ × VifValue) TableFaultKind)
    → ((at_line n read >>= λ row. rows_after vif_at_line (rows ++ row ∷ []) lines)
    >>= λ all. Ok (from_entries all))
    ≡ (at_line n (read >>= λ row. Ok (rows ++ row ∷ [])) >>= λ more. vifs_from_lines more lines)
rows_after-line_first n rows lines (Ok row) = refl
rows_after-line_first n rows lines (Err kind) = refl

-- the lines are read one after the other
pub vifs_read_in_steps : ReadsInSteps vifs_from_lines vif_step
vifs_read_in_steps = record {
  line = λ rows line lines. rows_after-line_first line.number rows lines (vif_in_line rows line);
}

-- a line that isn't ended is refused
vif_in_line-unended : (rows : List (ℕ × VifValue)) (line : LineText) → line.ended ≡ false
    → vif_in_line rows line ≡ Err Unended
unfolding vif_in_line
vif_in_line-unended rows line none = rw none refl

pub vifs_from_lines-unended : (rows : List (ℕ × VifValue)) (number : ℕ) (bytes : List ℕ)
    → vifs_from_lines rows (record { number = number; bytes = bytes; ended = false } ∷ [])
    ≡ Err (record { line = number; kind = Unended })
vifs_from_lines-unended rows number bytes =
    ap (λ r. (at_line number r >>= λ row. rows_after vif_at_line (rows ++ row ∷ []) [])
    >>= λ all. Ok (from_entries all))
    (vif_in_line-unended rows (record { number = number; bytes = bytes; ended = false }) refl)

-- no rows are valid
pub vif_rows-valid_none : AreValidVifRows []
unfolding IsDistinct
vif_rows-valid_none = (tt, tt, tt)

-- valid rows stay valid with one that was read after them
pub vif_rows-valid_push : (rows : List (ℕ × VifValue)) (line : LineText) (row : ℕ × VifValue)
    → vif_in_line rows line ≡ Ok row → AreValidVifRows rows → AreValidVifRows (rows ++ row ∷ [])
vif_rows-valid_push rows line row is valid =
    let found = vif_at_line-reads_rows.found rows line row (ap (at_line line.number) is) in
    let grown = vif_at_line-reads_rows.grows rows row (valid.0, valid.1) found.1 in
    let numbered = denoted_vifs-at_most_31 (line ∷ []) (row ∷ []) (found.0, tt) in
    (grown.0, grown.1, AllByRecursion-append (λ r. r.0 ≤ 31) rows (row ∷ []) valid.2 numbered)
