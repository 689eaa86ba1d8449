-- Report lists: a text with an IGMP message on each line, and the records of these messages
-- (docs/FORMATS.md).
use Rattle.std.specs.Prelude.{◌≡◌, ℕ, ◌≤◌, true, List, [], ◌∷◌, length, Ok}
use Rattle.std.specs.List.{flat_map}
use Rattle.hex.specs.Hex.{decode_of}
use Rattle.mc_text.specs.Lines.{LineText, lines_of, max_text}
use Rattle.mc_igmp.specs.declared.record.Record.{Record}
use Rattle.mc_igmp.specs.declared.message.Message.{Message}
use Rattle.mc_igmp.specs.declared.message.Message.TheVariants.{Report, Other}
use Rattle.mc_igmp.specs.Message.{IsMessage, records_of}
use Rattle.mc_igmp.specs.Records.{HaveNoChanges}

-- A message that a list accepts. No record reports a change (types 3 to 6, RFC 3376, section 4.2.12),
-- since the meaning of a change depends on earlier reports.
abbrev pub IsAcceptedMessage : Message → Type 0
IsAcceptedMessage (Report records) = HaveNoChanges records
IsAcceptedMessage (Other type) = Unit {0}

-- The line is this message in hexadecimal, and nothing else. A message is the payload of one IP packet:
-- at most 65,535 bytes less the 20 of its header (RFC 791, section 3.1), each of two digits. A list has
-- at most 65,536 lines.
pub record IsMessageLine (line : LineText) (message : Message) : Type 0 where
  pub bytes : List ℕ
  pub ended : line.ended ≡ true
  pub number : line.number ≤ 65536
  pub size : length line.bytes ≤ 131030
  pub decoded : decode_of line.bytes ≡ Ok bytes
  pub denotes : IsMessage bytes message
  pub accepted : IsAcceptedMessage message

-- each line is its message, in order
abbrev pub AreMessageLines : List LineText → List Message → Type 0
AreMessageLines [] [] = Unit {0}
AreMessageLines [] (message ∷ messages) = ⊥
AreMessageLines (line ∷ lines) [] = ⊥
AreMessageLines (line ∷ lines) (message ∷ messages) =
    IsMessageLine line message × AreMessageLines lines messages

-- the text has at most 16,777,216 bytes, its lines are messages, one a line, and these are all
-- their records, in order
pub record IsReportList (text : List ℕ) (records : List Record) : Type 0 where
  pub messages : List Message
  pub size : length text ≤ max_text
  pub lines : AreMessageLines (lines_of text) messages
  pub in_order : records ≡ flat_map records_of messages
