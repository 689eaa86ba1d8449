-- The lines of a text that comes in pieces: how far they have come, and what the lines to come are
-- read as.
use Rattle.std.specs.Prelude.{◌≡◌, ℕ, ◌+◌, ◌≤◌, ◌==◌, true, List, [], ◌∷◌, ◌++◌, length}
use Rattle.std.specs.Prelude.{Option, Some, MatchOption, Result, Ok, Err, position, take, not}
use Rattle.std.specs.Prelude.{if◌then◌else◌}
use Rattle.mc_text.specs.Lines.{LineText, HasNoLineFeed, lines_from, max_text}
use Rattle.mc_text.specs.Lines.{words_of}
use Rattle.mc_tables.specs.declared.fault.TableFault.{TableFault}
use Rattle.mc_tables.specs.declared.fault.TableFaultKind.{TableFaultKind}
use Rattle.mc_tables.specs.declared.fault.TableFaultKind.TheVariants.{NoHeader, Unended}
use Rattle.mc_text.specs.Steps.{◌>>=◌}
use Rattle.mc_tables.specs.Steps.{demand, at_line}
use Rattle.mc_tables.specs.TableLines.{begins_with, lines_after_header}

-- how many lines have ended, how many bytes have come, and those after the last line feed, which
-- are the line that has begun
pub record LinesSoFar : Type 0 where
  pub ended : ℕ
  pub size : ℕ
  pub begun : List ℕ

-- the state before the first byte
abbrev pub lines_start : LinesSoFar
lines_start = record { ended = 0; size = 0; begun = [] }

-- the rules of every state: what has come is within the limit, and the line that has begun has no
-- line feed
pub record IsValidLinesSoFar (lines : LinesSoFar) : Type 0 where
  pub within : lines.size ≤ max_text
  pub numbers : lines.ended + length lines.begun ≤ lines.size
  pub begun : HasNoLineFeed lines.begun

-- the state after `size` more bytes, of which `bytes` were added to the line that has begun
abbrev pub with_begun : LinesSoFar → ℕ → List ℕ → LinesSoFar
with_begun lines size bytes =
    record lines { size = lines.size + size; begun = lines.begun ++ bytes }

-- The bytes were taken up to the first line feed, which is at this place; all of them, if there is
-- no line feed and so no place.
abbrev pub TakesToLineFeed : (old : LinesSoFar) (bytes : List ℕ) (new : LinesSoFar) → Option ℕ → Type 0
TakesToLineFeed old bytes new place =
    MatchOption place (HasNoLineFeed bytes × (new ≡ with_begun old (length bytes) bytes))
    (λ end. (position (λ byte. byte == 10) bytes ≡ Some end)
    × (new ≡ with_begun old (end + 1) (take end bytes)))

-- the state when the line that has begun has ended
abbrev pub with_ended : LinesSoFar → LinesSoFar
with_ended lines = record lines { ended = lines.ended + 1; begun = [] }

-- the line that has begun, which a line feed ends
abbrev pub line_begun : LinesSoFar → LineText
line_begun lines = record { number = lines.ended + 1; bytes = lines.begun; ended = true }

-- nothing, if the text may end here: each line has ended (else Unended), and there is a header
-- (NoHeader)
abbrev pub check_end_of_lines : LinesSoFar → Result (Unit {0}) TableFault
check_end_of_lines lines =
    if not (length lines.begun == 0)
    then Err (record { line = lines.ended + 1; kind = Unended })
    else (if lines.ended == 0 then Err (record { line = 1; kind = NoHeader }) else Ok tt)

-- the lines that are still to be read if the bytes `more` come
abbrev pub lines_to_come : LinesSoFar → List ℕ → List LineText
lines_to_come lines more = lines_from (lines.ended + 1) (lines.begun ++ more)

-- What reading ends with if the bytes `more` come. `read` reads the lines after the header, which
-- is the first line of the text; it is still to come if no line has ended.
abbrev pub read_after : {A : Type 0} → List ℕ → (List LineText → Result A TableFault) → LinesSoFar
    → List ℕ → Result A TableFault
read_after first read lines more =
    if lines.ended == 0 then (lines_after_header first (lines_to_come lines more) >>= read)
    else read (lines_to_come lines more)

-- the line has to be a header: a line feed ends it (else Unended), and its first word is `first`
-- (NoHeader)
abbrev pub header_line : List ℕ → LineText → Result (Unit {0}) TableFaultKind
header_line first line =
    demand line.ended Unended >>= λ _. demand (begins_with first (words_of line.bytes)) NoHeader

-- the state after one more line: the line is the header if none has ended, or else `step` reads it
abbrev pub line_after : {S : Type 0} → List ℕ → (LineText → Result S TableFault) → S → ℕ
    → LineText → Result S TableFault
line_after first step state ended line =
    if ended == 0 then (at_line 1 (header_line first line) >>= λ _. Ok state) else step line

-- To read lines from a state on is to read the first by `step`, and then the others.
pub record ReadsInSteps {S A : Type 0} (read : S → List LineText → Result A TableFault)
    (step : S → LineText → Result S TableFault) : Type 0 where
  pub line : (state : S) (line : LineText) (lines : List LineText)
      → read state (line ∷ lines) ≡ (step state line >>= λ more. read more lines)
