-- Reading a report list line by line: the functions agree with the relations.
use Rattle.std.proofs.Common.{◌≡◌, ◌≢◌, ℕ, ◌+◌, ◌≤◌, true, List, [], ◌∷◌, length, None}
use Rattle.std.proofs.Common.{Result, Ok, Err, refl, arith, ◌<◌, ◌⊎◌, ◌++◌, append_assoc}
use Rattle.std.specs.Prelude.{◌⊎◌, IfOk}
use Rattle.std.specs.List.{flat_map}
use Rattle.std.proofs.lemmas.Bool.{le-ltb}
use Rattle.std.proofs.lemmas.Bool.Decides.{nat_tests}
use Rattle.hex.specs.declared.error.FromHexError.{FromHexError}
use Rattle.hex.specs.Hex.{decode_of}
use Rattle.hex.proofs.HexLemmas.{decode_of-ok}
use Rattle.mc_text.specs.Lines.{LineText, lines_of}
use Rattle.mc_text.proofs.StepLemmas.{bind_ok, with_front}
use Rattle.mc_igmp.specs.declared.record.Record.{Record}
use Rattle.mc_igmp.specs.declared.message.Message.{Message}
use Rattle.mc_igmp.specs.declared.message.Message.TheVariants.{Report}
use Rattle.mc_igmp.specs.declared.message.MessageFault.{MessageFault}
use Rattle.mc_igmp.specs.declared.fault.ListFault.{ListFault}
use Rattle.mc_igmp.specs.declared.fault.ListFaultKind.TheVariants.{BadHex, TooLarge}
use Rattle.mc_igmp.specs.ReadingList.{IsMemory, oom_fault}
use Rattle.mc_igmp.specs.Message.{records_of}
use Rattle.mc_igmp.specs.ReadingMessage.{read_message}
use Rattle.mc_igmp.specs.ReportList.{IsAcceptedMessage, IsMessageLine, AreMessageLines, IsReportList}
use Rattle.mc_igmp.specs.ReadingList.{fault_at, decoded_or_bad_hex, bytes_of_line, first_change}
use Rattle.mc_igmp.specs.ReadingList.{accepted_records, read_line, read_lines, read_list}
use Rattle.mc_igmp.proofs.MessageLemmas.{read_message-gives_message, read_message-complete}
use Rattle.std.proofs.lemmas.List.{append-nil}

-- ---- records that report a change

-- if no record is found to report a change, a list accepts their report
first_change-none_is_accepted : (number : ℕ) (rs : List Record) → first_change number rs ≡ None
    → IsAcceptedMessage (Report rs)
unfolding first_change
first_change-none_is_accepted number [] f = tt
first_change-none_is_accepted number (r ∷ rs) f =
    (grind arith, first_change-none_is_accepted (number + 1) rs (grind arith))

-- of a report that a list accepts no record is found to report a change
pub first_change-none : (number : ℕ) (rs : List Record) → IsAcceptedMessage (Report rs)
    → first_change number rs ≡ None
unfolding first_change
first_change-none number [] h = refl
first_change-none number (r ∷ rs) h = rw h.0 (first_change-none (number + 1) rs h.1)

-- ---- the bytes of a line

-- of an ended line within the limits the bytes are those that its digits write
pub bytes_of_line-digits : (line : LineText) → line.ended ≡ true → line.number ≤ 65536
    → length line.bytes ≤ 131030
    → bytes_of_line line ≡ decoded_or_bad_hex line.number (decode_of line.bytes)
unfolding bytes_of_line
bytes_of_line-digits line e h g = rw (e, le-ltb _ _ h, le-ltb _ _ g) refl

-- a line that doesn't decode has the fault `BadHex`, whatever the reason
pub decoded_or_bad_hex-bad_hex : (number : ℕ) (decoded : Result (List ℕ) FromHexError)
    → ((out : List ℕ) → decoded ≢ Ok out)
    → decoded_or_bad_hex number decoded ≡ Err (fault_at number 0 BadHex)
decoded_or_bad_hex-bad_hex number (Ok bytes) none = absurd (none bytes refl)
decoded_or_bad_hex-bad_hex number (Err e) none = refl

-- ---- the records of a line

-- the fault of a line's bytes is the line's, unless memory ran out
pub read_line-fault : (line : LineText) (fault : ListFault)
    → IsMemory fault ⊎ (bytes_of_line line ≡ Err fault)
    → IsMemory fault ⊎ (read_line line ≡ Err fault)
unfolding read_line
read_line-fault line fault h = grind arith

-- of a line whose bytes were read the records are those of their message
pub read_line-accepted_records : (line : LineText) (bytes : List ℕ) → bytes_of_line line ≡ Ok bytes
    → read_line line ≡ accepted_records line.number (read_message bytes)
unfolding read_line
read_line-accepted_records line bytes e = rw e refl

-- the line of bytes that were read is ended, within the limits, and decodes to them
bytes_of_line-sound : (line : LineText) (bytes : List ℕ) → bytes_of_line line ≡ Ok bytes
    → (line.ended ≡ true) × (line.number ≤ 65536) × (length line.bytes ≤ 131030)
    × (decode_of line.bytes ≡ Ok bytes)
unfolding bytes_of_line
bytes_of_line-sound line bytes e = grind (arith, nat_tests)

-- a line that is read is ended
pub read_line-ended : (line : LineText) (records : List Record) → read_line line ≡ Ok records
    → line.ended ≡ true
unfolding read_line
read_line-ended line records read =
    let (bytes, of_line, rest) = bind_ok (bytes_of_line line) _ records read in
    (bytes_of_line-sound line bytes of_line).0

-- accepted records are those of a message that the list accepts
accepted_records-sound : (number : ℕ) (r : Result Message MessageFault) (rs : List Record)
    → accepted_records number r ≡ Ok rs
    → (m : Message) × (r ≡ Ok m) × IsAcceptedMessage m × (rs ≡ records_of m)
accepted_records-sound number r rs e = grind (arith, first_change-none_is_accepted 1)

-- a line that is read is a message in hexadecimal with these records
pub read_line-sound : (line : LineText) (rs : List Record) → read_line line ≡ Ok rs
    → (m : Message) × IsMessageLine line m × (rs ≡ records_of m)
unfolding read_line
read_line-sound line rs e =
    let (bytes, read, rest) = bind_ok (bytes_of_line line) _ rs e in
    let (m, is, accepted, records) = accepted_records-sound line.number (read_message bytes) rs rest in
    let (ended, number, size, decoded) = bytes_of_line-sound line bytes read in
    let denotes = read_message-gives_message bytes m (decode_of-ok line.bytes bytes decoded).3 is in
    (m, grind arith, records)

-- a message in hexadecimal is read as its records
pub read_line-complete : (line : LineText) (m : Message) → IsMessageLine line m
    → read_line line ≡ Ok (records_of m)
read_line-complete line m h =
    let digits = bytes_of_line-digits line h.ended h.number h.size in
    let is = read_message-complete h.bytes m h.denotes in
    grind (arith, digits, is, read_line-accepted_records line h.bytes, first_change-none 1)

-- ---- the loop over the lines

-- after one more line the records that were read and those to come are the same in all
pub read_lines_more : (front first new : List Record) (line : LineText) (all lines : List LineText)
    (total : Result (List Record) ListFault) → all ≡ line ∷ lines → read_line line ≡ Ok first
    → new ≡ front ++ first → with_front front (read_lines all) ≡ total
    → with_front new (read_lines lines) ≡ total
unfolding read_lines
read_lines_more front first new line all lines total all_is read_is new_is so_far =
    grind (arith, append_assoc)

-- ---- the whole text

-- the lines are messages with these records
abbrev AreReadLines : List LineText → List Record → Type 0
AreReadLines lines rs = (ms : List Message) × AreMessageLines lines ms × (rs ≡ flat_map records_of ms)

-- lines that are read are messages with these records
read_lines-sound : (lines : List LineText) (rs : List Record) → read_lines lines ≡ Ok rs
    → AreReadLines lines rs
unfolding read_lines
read_lines-sound [] rs e = ([], tt, cc)
read_lines-sound (line ∷ lines) rs e =
    let (first, read, others) = bind_ok (read_line line) _ rs e in
    let (rest, later, all) = bind_ok (read_lines lines) _ rs others in
    let (m, here, is) = read_line-sound line first read in
    let (ms, there, are) = read_lines-sound lines rest later in
    (m ∷ ms, (here, there), cc)

-- lines that are messages are read as the records of these
read_lines-complete : (lines : List LineText) (ms : List Message) → AreMessageLines lines ms
    → read_lines lines ≡ Ok (flat_map records_of ms)
unfolding read_lines
read_lines-complete [] [] h = refl
read_lines-complete (line ∷ lines) (m ∷ ms) h =
    rw (read_line-complete line m h.0, read_lines-complete lines ms h.1) refl
read_lines-complete _ _ h = absurd h

-- a text is a report list of the records that are read
pub read_list-sound : (text : List ℕ) (rs : List Record) → read_list text ≡ Ok rs
    → IsReportList text rs
unfolding read_list
read_list-sound text rs e = grind (arith, nat_tests, read_lines-sound)

-- a report list is read as its records
pub read_list-complete : (text : List ℕ) (rs : List Record) → IsReportList text rs
    → read_list text ≡ Ok rs
unfolding read_list
read_list-complete text rs h = grind (arith, nat_tests, read_lines-complete)

-- the result is that of reading the text, unless memory ran out
abbrev IsReadOrOutOfMemory : List ℕ → Result (List Record) ListFault → Type 0
IsReadOrOutOfMemory text result = (result ≡ read_list text) ⊎ (result ≡ Err oom_fault)

-- the clauses of `read`, for a text and its result
abbrev IsReportListAnswer : List ℕ → Result (List Record) ListFault → Type 0
IsReportListAnswer text result = record {
  found : IfOk result (IsReportList text);
  only : (rs : List Record) → IsReportList text rs → (result ≡ Ok rs) ⊎ (result ≡ Err oom_fault);
  fault : IsReadOrOutOfMemory text result;
}

-- a result that is that of reading the text keeps the clauses of `read`
report_list_answer-from_read_list : (text : List ℕ) (result : Result (List Record) ListFault)
    → IsReadOrOutOfMemory text result
    → IsReportListAnswer text result
report_list_answer-from_read_list text result is = record {
  found = grind (arith, read_list-sound text);
  only = λ rs h. grind (arith, read_list-complete text rs h);
  fault = is;
}

-- of a text past the limit the fault `TooLarge` keeps the clauses of `read`
pub report_list_answer-too_large : (text : List ℕ) (result : Result (List Record) ListFault)
    → 16777216 < length text → result ≡ Err (fault_at 0 0 TooLarge) → IsReportListAnswer text result
unfolding read_list
report_list_answer-too_large text result h e =
    report_list_answer-from_read_list text result (grind (arith, nat_tests))

-- when no line is left, the records that were read are the list
pub read_lines_all : (text : List ℕ) (list : List Record) (all : List LineText) → length text ≤ 16777216
    → all ≡ [] → with_front list (read_lines all) ≡ read_lines (lines_of text)
    → IsReportListAnswer text (Ok list)
unfolding read_lines read_list
read_lines_all text list all size all_is so_far =
    report_list_answer-from_read_list text (Ok list) (grind (arith, nat_tests, append-nil))

-- the fault of a line is the fault of the text
pub read_lines_fault : (text : List ℕ) (front : List Record) (line : LineText)
    (all lines : List LineText) (fault : ListFault) → length text ≤ 16777216 → all ≡ line ∷ lines
    → IsMemory fault ⊎ (read_line line ≡ Err fault)
    → with_front front (read_lines all) ≡ read_lines (lines_of text) → IsReportListAnswer text (Err fault)
unfolding read_lines read_list
read_lines_fault text front line all lines fault size all_is why so_far =
    report_list_answer-from_read_list text (Err fault) (grind (arith, nat_tests))
