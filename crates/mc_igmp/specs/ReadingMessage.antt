-- What the bytes of a message are read as: the message, or the first fault. Types (RFC 3376,
-- section 4): 0x22 is a Version 3 report, 0x12 a Version 1 and 0x16 a Version 2 report; every other
-- message is kept by its type.
use Rattle.std.specs.Prelude.{ℕ, ◌==◌, ◌||◌, nat_lt, List, [], ◌∷◌, length, drop}
use Rattle.std.specs.Prelude.{slice_index, Result, Ok, Err, if◌then◌else◌}
use Rattle.mc_igmp.specs.declared.message.Message.{Message}
use Rattle.mc_igmp.specs.declared.message.Message.TheVariants.{Report, Other}
use Rattle.mc_igmp.specs.declared.message.MessageFault.{MessageFault}
use Rattle.mc_igmp.specs.declared.message.MessageFault.TheVariants.{Short, BadChecksum, Truncated}
use Rattle.mc_igmp.specs.Checksum.{is_checksum_right}
use Rattle.mc_igmp.specs.Record.{group_at}
use Rattle.mc_igmp.specs.Records.{records_in, after_records}
use Rattle.mc_igmp.specs.Message.{record_count}
use Rattle.mc_igmp.specs.OlderReport.{older_record}

-- the Version 3 report of these bytes, where `after` is what comes after its last record, which has to
-- end within them (else Truncated, with the number of the first record that doesn't)
abbrev pub report_of : (bytes : List ℕ) → (after : Result (List ℕ) ℕ) → Result Message MessageFault
report_of bytes (Ok ignored) = Ok (Report (records_in (record_count bytes) (drop 8 bytes)))
report_of bytes (Err number) = Err (Truncated number)

-- the message of these bytes, which are well formed and have this type
unfoldable pub read_by_type : (bytes : List ℕ) → (type : ℕ) → Result Message MessageFault
read_by_type bytes type =
    if type == 0x22 then report_of bytes (after_records 1 (record_count bytes) (drop 8 bytes))
    else if type == 0x12 || type == 0x16 then Ok (Report (older_record (group_at bytes) ∷ []))
    else Ok (Other type)

-- The message of these bytes. They have to be at least 8 (else Short), the checksum has to be right
-- (BadChecksum), and the records of a Version 3 report have to end within them (Truncated), in this
-- order.
unfoldable pub read_message : List ℕ → Result Message MessageFault
read_message bytes =
    if nat_lt (length bytes) 8 then Err Short
    else if is_checksum_right bytes then read_by_type bytes (slice_index bytes 0)
    else Err BadChecksum
