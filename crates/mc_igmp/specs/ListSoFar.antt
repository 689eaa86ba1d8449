-- A report list whose text comes in pieces: the state of reading, and what it ends with.
use Rattle.std.specs.Prelude.{ℕ, ◌+◌, ◌*◌, ◌≤◌, nat_lt, true, ◌≡◌, List, [], ◌++◌}
use Rattle.std.specs.Prelude.{length, Option, Some, None, Result, Ok, Err, if◌then◌else◌}
use Rattle.mc_text.specs.DigitPairs.{AreDecoded}
use Rattle.mc_text.specs.Lines.{LineText, HasNoLineFeed, lines_from, max_text}
use Rattle.mc_text.specs.Steps.{◌>>=◌}
use Rattle.mc_igmp.specs.declared.record.Record.{Record}
use Rattle.mc_igmp.specs.declared.fault.ListFault.{ListFault}
use Rattle.mc_igmp.specs.declared.line_reader.LineReader.{LineReader}
use Rattle.mc_igmp.specs.declared.fault.ListFaultKind.TheVariants.{TooLarge}
use Rattle.mc_igmp.specs.ReadingList.{fault_at, read_lines}

-- the first `decoded` bytes of `message` are there already: those that the line's first digits
-- write
pub record IsDecodedAhead (line message : List ℕ) (decoded : ℕ) : Type 0 where
  pub ahead : AreDecoded line message decoded
  pub within : 2 * decoded ≤ length line
  pub fits : decoded ≤ length message

-- these records, and after them those of the lines that these bytes are, which come after `ended`
-- lines; or the first fault
abbrev pub read_rest_of_lines : (records : List Record) → (ended : ℕ) → (bytes : List ℕ)
    → Result (List Record) ListFault
read_rest_of_lines records ended bytes =
    read_lines (lines_from (ended + 1) bytes) >>= λ others. Ok (records ++ others)

-- the records that the lines so far are read as if the bytes `more` come
abbrev pub lines_if : LineReader → (more : List ℕ) → Result (List Record) ListFault
lines_if lines more = read_rest_of_lines lines.list lines.ended (lines.begun.items ++ more)

-- the line of these bytes, which a line feed ends and which comes after `ended` lines
abbrev pub line_after : (ended : ℕ) → (bytes : List ℕ) → LineText
line_after ended bytes = record { number = ended + 1; bytes = bytes; ended = true }

-- As long as the text is within the limit and has no fault, more lines can be read: the line that
-- has begun has no line feed, and its bytes and the line feeds before it are among the bytes that
-- have come.
abbrev pub CanReadOn : (size ended : ℕ) → (begun : List ℕ) → Option ListFault → Type 0
CanReadOn size ended begun fault = size ≤ max_text → fault ≡ None →
    HasNoLineFeed begun × (ended + length begun ≤ size)

-- The state of reading: how many bytes have come, how many lines have ended, the bytes after the
-- last line feed, the records of the lines that have ended, and the first fault of a line, if there
-- was one.
pub record ListSoFar : Type 0 where
  pub size : ℕ
  pub ended : ℕ
  pub begun : List ℕ
  pub records : List Record
  pub fault : Option ListFault

-- the state before the first byte
abbrev pub no_list : ListSoFar
no_list = record { size = 0; ended = 0; begun = []; records = []; fault = None }

-- the state without its records
abbrev pub without_records : ListSoFar → ListSoFar
without_records so_far = record so_far { records = [] }

-- an earlier fault, if there was one, or else what is read
abbrev pub unless_fault : Option ListFault → Result (List Record) ListFault
    → Result (List Record) ListFault
unless_fault None read = read
unless_fault (Some fault) read = Err fault

-- What reading ends with if the bytes `more` come: the records, or the first fault. A text past the
-- limit is refused whatever its lines are, as one that comes whole is.
abbrev pub list_if : ListSoFar → (more : List ℕ) → Result (List Record) ListFault
list_if so_far more =
    if nat_lt max_text (so_far.size + length more) then Err (fault_at 0 0 TooLarge)
    else unless_fault so_far.fault
    (read_rest_of_lines so_far.records so_far.ended (so_far.begun ++ more))
