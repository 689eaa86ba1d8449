-- The lines of the kernel's two tables: a header, and then a line for each row.
use Rattle.std.specs.Prelude.{◌≡◌, ℕ, ◌≤◌, nat_lt, Bool, false, IsTrue, List, [], ◌∷◌, ◌++◌, length}
use Rattle.std.specs.Prelude.{Option, Some, None, Result, Ok, Err, if◌then◌else◌}
use Rattle.std.specs.List.{list_any}
use Rattle.std.specs.Str.{bytes_eq}
use Rattle.mc_text.specs.Lines.{LineText, lines_of, max_text}
use Rattle.mc_text.specs.Lines.{words_of}
use Rattle.mc_tables.specs.declared.fault.TableFault.{TableFault}
use Rattle.mc_tables.specs.declared.fault.TableFaultKind.TheVariants.{NoHeader, Unended, TooLarge}
use Rattle.mc_text.specs.Steps.{◌>>=◌}
use Rattle.mc_tables.specs.Steps.{demand, at_line}

-- ---- what a text denotes

-- whether the first of the words is `first`
abbrev pub begins_with : List ℕ → List (List ℕ) → Bool
begins_with first [] = false
begins_with first (word ∷ words) = bytes_eq word first

-- The text has at most 16,777,216 bytes. A line feed ends its first line, the header, whose first
-- word is `first`, and these are the lines after it.
pub record HasHeader (first : List ℕ) (text : List ℕ) (lines : List LineText) : Type 0 where
  pub size : length text ≤ max_text
  pub header : LineText
  pub whole : lines_of text ≡ header ∷ lines
  pub ended : IsTrue header.ended
  pub begins : IsTrue (begins_with first (words_of header.bytes))

-- each line denotes its row, in order
abbrev pub EachDenotes : {L R : Type 0} → (L → R → Type 0) → List L → List R → Type 0
EachDenotes Denotes [] [] = Unit {0}
EachDenotes Denotes [] (row ∷ rows) = ⊥
EachDenotes Denotes (line ∷ lines) [] = ⊥
EachDenotes Denotes (line ∷ lines) (row ∷ rows) = Denotes line row × EachDenotes Denotes lines rows

-- whether there is a key, and it is among the earlier ones
abbrev pub is_among : {K : Type 0} → (K → K → Bool) → Option K → List K → Bool
is_among same None earlier = false
is_among same (Some key) earlier = list_any (same key) earlier

-- ---- what a text is read as

-- the lines after the first, which has to be a header whose first word is `first`
abbrev pub lines_after_header : List ℕ → List LineText → Result (List LineText) TableFault
lines_after_header first [] = Err (record { line = 1; kind = NoHeader })
lines_after_header first (header ∷ lines) =
    at_line 1 (demand header.ended Unended >>= λ _.
    demand (begins_with first (words_of header.bytes)) NoHeader) >>= λ _. Ok lines

-- the lines after the header of a text, which has to be within the limit
abbrev pub lines_in : List ℕ → List ℕ → Result (List LineText) TableFault
lines_in first text =
    if nat_lt max_text (length text) then Err (record { line = 0; kind = TooLarge })
    else lines_after_header first (lines_of text)

-- the earlier rows, and after them those of the lines, each read in view of all rows before it
abbrev pub rows_after : {L R E : Type 0} → (List R → L → Result R E) → List R → List L
    → Result (List R) E
rows_after row_in earlier [] = Ok earlier
rows_after row_in earlier (line ∷ lines) =
    row_in earlier line >>= λ row. rows_after row_in (earlier ++ row ∷ []) lines
