-- A vif table whose text comes in pieces: what it is read as.
use Rattle.std.specs.Prelude.{ℕ, List, [], ◌∷◌, ◌++◌, Result, Ok}
use Rattle.std.specs.Prelude.{codes}
use Rattle.std.specs.Ordering.{nat_cmp}
use Rattle.std.specs.FinMap.{FinMap, from_entries}
use Rattle.mc_text.specs.Lines.{LineText}
use Rattle.mc_tables.specs.declared.fault.TableFault.{TableFault}
use Rattle.mc_tables.specs.declared.fault.TableFaultKind.{TableFaultKind}
use Rattle.mc_text.specs.Steps.{◌>>=◌}
use Rattle.mc_tables.specs.Steps.{at_line}
use Rattle.mc_tables.specs.TableLines.{rows_after}
use Rattle.mc_tables.specs.TableSoFar.{TableSoFar, table_start, table_if}
use Rattle.mc_tables.specs.VifTable.{VifValue}
use Rattle.mc_tables.specs.VifReading.{vif_in_line, vif_at_line}

-- the rows with the vif of one more line, or the kind of its fault
abbrev pub vif_added : List (ℕ × VifValue) → LineText → Result (List (ℕ × VifValue)) TableFaultKind
vif_added rows line = vif_in_line rows line >>= λ row. Ok (rows ++ row ∷ [])

-- the rows with the vif of one more line, or the fault at the line
abbrev pub vif_step : List (ℕ × VifValue) → LineText → Result (List (ℕ × VifValue)) TableFault
vif_step rows line = at_line line.number (vif_added rows line)

-- the vifs of these rows and of the lines after them, or the first fault
abbrev pub vifs_from_lines : List (ℕ × VifValue) → List LineText → Result (FinMap nat_cmp VifValue) TableFault
vifs_from_lines rows lines = rows_after vif_at_line rows lines >>= λ all. Ok (from_entries all)

-- the state of reading a vif table
abbrev pub VifsSoFar : Type 0
VifsSoFar = TableSoFar (List (ℕ × VifValue))

-- the state before the first byte
abbrev pub vifs_start : VifsSoFar
vifs_start = table_start []

-- what reading ends with if the bytes `more` come: the vifs by their indexes, or the first fault
abbrev pub vifs_if : VifsSoFar → List ℕ → Result (FinMap nat_cmp VifValue) TableFault
vifs_if vifs more = table_if (codes "Interface") vifs_from_lines vifs more
