-- A kernel table whose text comes in pieces: the state of reading, and what it ends with.
use Rattle.std.specs.Prelude.{List, ℕ, nat_lt, length, Option, None, Result, Err, if◌then◌else◌}
use Rattle.mc_text.specs.Lines.{LineText, max_text}
use Rattle.mc_tables.specs.declared.fault.TableFault.{TableFault}
use Rattle.mc_tables.specs.declared.fault.TableFaultKind.TheVariants.{TooLarge}
use Rattle.mc_tables.specs.Steps.{fault_at, unless_fault}
use Rattle.mc_tables.specs.LinesSoFar.{LinesSoFar, lines_start, read_after}

-- the state of reading: the lines so far, their rows, and the fault if there was one
pub record TableSoFar (R : Type 0) : Type 0 where
  pub lines : LinesSoFar
  pub rows : R
  pub fault : Option TableFault

-- the state before the first byte, with these rows
abbrev pub table_start : {R : Type 0} → R → TableSoFar R
table_start rows = record { lines = lines_start; rows = rows; fault = None }

-- What reading ends with if the bytes `more` come: the table, or the first fault. The first word of
-- the header is `first`, and `read` gives the table of the rows so far and of the lines after them.
abbrev pub table_if : {R A : Type 0} → (first : List ℕ) → (read : R → List LineText → Result A TableFault)
    → TableSoFar R → List ℕ → Result A TableFault
table_if first read so_far more =
    unless_fault so_far.fault (read_after first (read so_far.rows) so_far.lines more)

-- what a whole text is read as, if it isn't too large
abbrev pub whole_if : {A : Type 0} → (List ℕ → Result A TableFault) → List ℕ → Result A TableFault
whole_if read text = if nat_lt max_text (length text) then Err (fault_at 0 TooLarge) else read text
