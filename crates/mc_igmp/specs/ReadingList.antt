-- What the text of a report list is read as, line by line: its records, or the first fault. Faults
-- have the order of docs/FORMATS.md.
use Rattle.std.specs.Prelude.{◌≡◌, ℕ, ◌+◌, ◌||◌, not, nat_lt, List, [], ◌∷◌, ◌++◌, length, Option}
use Rattle.std.specs.Prelude.{Some, None, Result, Ok, Err, if◌then◌else◌}
use Rattle.hex.specs.declared.error.FromHexError.{FromHexError}
use Rattle.hex.specs.Hex.{decode_of}
use Rattle.mc_text.specs.Lines.{LineText, lines_of, max_text}
use Rattle.mc_text.specs.Steps.{◌>>=◌}
use Rattle.mc_igmp.specs.declared.record.Record.{Record}
use Rattle.mc_igmp.specs.declared.message.Message.{Message}
use Rattle.mc_igmp.specs.declared.message.Message.TheVariants.{Report, Other}
use Rattle.mc_igmp.specs.declared.message.MessageFault.{MessageFault}
use Rattle.mc_igmp.specs.declared.message.MessageFault.TheVariants as message
use Rattle.mc_igmp.specs.declared.fault.ListFault.{ListFault}
use Rattle.mc_igmp.specs.declared.fault.ListFaultKind.{ListFaultKind}
use Rattle.mc_igmp.specs.declared.fault.ListFaultKind.TheVariants.{BadHex, Short, BadChecksum}
use Rattle.mc_igmp.specs.declared.fault.ListFaultKind.TheVariants.{Truncated, StateChange, TooLarge}
use Rattle.mc_igmp.specs.declared.fault.ListFaultKind.TheVariants.{Unended, Memory}
use Rattle.mc_igmp.specs.Kind.{is_change}
use Rattle.mc_igmp.specs.ReadingMessage.{read_message}

-- a fault of this kind, at a line and a record; the record is 0 where none is meant
abbrev pub fault_at : (line record_no : ℕ) → ListFaultKind → ListFault
fault_at line record_no kind = record { line = line; record_no = record_no; kind = kind }

-- the bytes that were decoded from a line, which have to be there (else BadHex)
abbrev pub decoded_or_bad_hex : ℕ → Result (List ℕ) FromHexError → Result (List ℕ) ListFault
decoded_or_bad_hex line (Ok bytes) = Ok bytes
decoded_or_bad_hex line (Err fault) = Err (fault_at line 0 BadHex)

-- The bytes that the digits of a line write. A line feed has to end the line (else Unended), it has
-- to be one of the first 65,536 and to have at most 131,030 bytes (TooLarge), and these are digits
-- in pairs (BadHex).
unfoldable pub bytes_of_line : LineText → Result (List ℕ) ListFault
bytes_of_line line =
    if not line.ended then Err (fault_at line.number 0 Unended)
    else if nat_lt 65536 line.number || nat_lt 131030 (length line.bytes)
    then Err (fault_at line.number 0 TooLarge)
    else decoded_or_bad_hex line.number (decode_of line.bytes)

-- the number of the first record that reports a change, where the first record has the number
-- `number`
unfoldable pub first_change : (number : ℕ) → List Record → Option ℕ
first_change number [] = None
first_change number (first ∷ others) =
    if is_change first.kind then Some number else first_change (number + 1) others

-- the records, of which none may report a change (else StateChange, with the number of the first
-- that does)
abbrev pub without_change : (line : ℕ) → List Record → Option ℕ → Result (List Record) ListFault
without_change line records None = Ok records
without_change line records (Some number) = Err (fault_at line number StateChange)

-- the records of a message that was read, if a list accepts it; a message that is no report has
-- none
abbrev pub accepted_records : ℕ → Result Message MessageFault → Result (List Record) ListFault
accepted_records line (Ok (Report records)) = without_change line records (first_change 1 records)
accepted_records line (Ok (Other type)) = Ok []
accepted_records line (Err message.Short) = Err (fault_at line 0 Short)
accepted_records line (Err message.BadChecksum) = Err (fault_at line 0 BadChecksum)
accepted_records line (Err (message.Truncated number)) = Err (fault_at line number Truncated)

-- the records of the message on a line, or its first fault
unfoldable pub read_line : LineText → Result (List Record) ListFault
read_line line = do
  bytes ← bytes_of_line line
  accepted_records line.number (read_message bytes)

-- the records of all lines, or the fault of the first line that has one
unfoldable pub read_lines : List LineText → Result (List Record) ListFault
read_lines [] = Ok []
read_lines (line ∷ lines) = do
  records ← read_line line
  others ← read_lines lines
  Ok (records ++ others)

-- the records of a text, or its first fault; a text past the limit is refused before any line is
-- read
unfoldable pub read_list : List ℕ → Result (List Record) ListFault
read_list text =
    if nat_lt max_text (length text) then Err (fault_at 0 0 TooLarge)
    else read_lines (lines_of text)

-- the fault that memory ran out, which no line has
abbrev pub oom_fault : ListFault
oom_fault = record { line = 0; record_no = 0; kind = Memory }

-- the fault is that memory ran out
abbrev pub IsMemory : ListFault → Type 0
IsMemory fault = fault ≡ oom_fault
