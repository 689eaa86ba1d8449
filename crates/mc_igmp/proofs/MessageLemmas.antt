-- Reading a message: the function agrees with the relation.
use Rattle.std.proofs.Common.{◌≡◌, ℕ, ◌-◌, ◌⊎◌, List, [], ◌∷◌, length, take, drop, Result, Ok, Err}
use Rattle.std.proofs.Common.{inl, inr, arith}
use Rattle.std.specs.Prelude.{IfOk, MatchResult, IsOkAnd, IsErrAnd, slice_index}
use Rattle.std.proofs.lemmas.Bool.Decides.{nat_tests}
use Rattle.std.proofs.lemmas.Result.{IfOk-at_ok}
use Rattle.std.proofs.lemmas.List.{take_rest}
use Rattle.byteorder.specs.Endian.{big_number}
use Rattle.mc_igmp.specs.declared.record.Record.{Record}
use Rattle.mc_igmp.specs.declared.message.Message.{Message}
use Rattle.mc_igmp.specs.declared.message.Message.TheVariants.{Report, Other}
use Rattle.mc_igmp.specs.declared.message.MessageFault.{MessageFault}
use Rattle.mc_igmp.specs.declared.message.MessageFault.TheVariants.{Truncated}
use Rattle.mc_igmp.specs.Checksum.{IsWellFormed}
use Rattle.mc_igmp.specs.Records.{records_in, after_records}
use Rattle.mc_igmp.specs.Message.{record_count, IsReportType, IsMessage}
use Rattle.mc_igmp.specs.OlderReport.{older_record}
use Rattle.mc_igmp.specs.Record.{group_at}
use Rattle.mc_igmp.specs.ReadingMessage.{report_of, read_by_type, read_message}
use Rattle.mc_igmp.proofs.AddressLemmas.{IsBytes, IsBytes-drop}
use Rattle.mc_igmp.proofs.RecordsLemmas.{big_number-at, records_in-complete, after_records-sound}

-- ---- the bytes are the message that is read

-- if a message was read, the bytes are it
abbrev IsReadMessageOf : List ℕ → Result Message MessageFault → Type 0
IsReadMessageOf bytes read = IfOk read (IsMessage bytes)

-- if a Version 3 report was read of the bytes, they are it
report_of-sound : (bytes : List ℕ) → IsBytes bytes → IsWellFormed bytes → slice_index bytes 0 ≡ 0x22
    → (after : Result (List ℕ) ℕ) → after_records 1 (record_count bytes) (drop 8 bytes) ≡ after
    → IsReadMessageOf bytes (report_of bytes after)
report_of-sound bytes fits formed type (Err number) e = tt
report_of-sound bytes fits formed type (Ok ignored) e =
    let found = after_records-sound 1 (record_count bytes) (drop 8 bytes) ignored
    (IsBytes-drop 8 bytes fits) e in
    (formed, inl (grind arith))

-- if a message was read of the bytes, they are it
pub read_message-sound : (bytes : List ℕ) → IsBytes bytes → IsReadMessageOf bytes (read_message bytes)
unfolding read_message read_by_type
read_message-sound bytes fits = grind (arith, nat_tests, report_of-sound)

-- ---- bytes that are a message are read as it

-- bytes of a type of version 1 or 2 are read as a report for their group
pub read_by_type-older_report : (bytes : List ℕ) (type : ℕ) → (type ≡ 0x12) ⊎ (type ≡ 0x16)
    → read_by_type bytes type ≡ Ok (Report (older_record (group_at bytes) ∷ []))
unfolding read_by_type
read_by_type-older_report bytes type e = grind (arith, nat_tests)

-- bytes of no type of a report are read as a message of that type
pub read_by_type-other_type : (bytes : List ℕ) (type : ℕ) → ¬ (IsReportType type)
    → read_by_type bytes type ≡ Ok (Other type)
unfolding read_by_type
read_by_type-other_type bytes type other = grind (arith, nat_tests)

-- bytes that are a message are read as it
pub read_message-complete : (bytes : List ℕ) (m : Message) → IsMessage bytes m
    → read_message bytes ≡ Ok m
unfolding read_message read_by_type
read_message-complete bytes (Report rs) (formed, inl h) =
    grind (arith, nat_tests, records_in-complete 1 rs h.own h.ignored h.whole)
read_message-complete bytes (Report rs) (formed, inr h) = grind (arith, nat_tests)
read_message-complete bytes (Other type) (formed, is, other) = grind (arith, nat_tests)

-- bytes that are read as a message are it
pub read_message-gives_message : (bytes : List ℕ) (m : Message) → IsBytes bytes → read_message bytes ≡ Ok m
    → IsMessage bytes m
read_message-gives_message bytes m fits e = IfOk-at_ok (IsMessage bytes) e (read_message-sound bytes fits)

-- ---- the code's reading

-- the result is the first records of the bytes, or the number of the first that doesn't end in them
abbrev AreRecordsReadOf : List ℕ → ℕ → Result (List Record) ℕ → Type 0
AreRecordsReadOf body count read = MatchResult read
    (λ rs. (ignored : List ℕ) × (after_records 1 count body ≡ Ok ignored)
    × (rs ≡ records_in count body))
    (λ number. after_records 1 count body ≡ Err number)

-- the result of reading records, made a report, and then with its fault converted
abbrev IsReportAnswer : Result (List Record) ℕ → Result Message ℕ → Result Message MessageFault → Type 0
IsReportAnswer read parsed answer =
    MatchResult read (λ rs. IsOkAnd parsed (λ m. m ≡ Report rs)) (λ number. parsed ≡ Err number)
    × MatchResult parsed (λ m. answer ≡ Ok m)
    (λ number. IsErrAnd answer (λ fault. fault ≡ Truncated number))

-- what the code reads of a Version 3 report is what the bytes are read as
pub read_by_type-version_3_report : (bytes : List ℕ) (count : ℕ) (read : Result (List Record) ℕ)
    (parsed : Result Message ℕ) (answer : Result Message MessageFault) → slice_index bytes 0 ≡ 0x22
    → count ≡ big_number 2 (take (length bytes - 6) (drop 6 bytes))
    → AreRecordsReadOf (take (length bytes - 8) (drop 8 bytes)) count read → IsReportAnswer read parsed answer
    → answer ≡ read_by_type bytes (slice_index bytes 0)
unfolding read_by_type
read_by_type-version_3_report bytes count read parsed answer type count_is is is_answer =
    grind (arith, nat_tests, big_number-at bytes 6, take_rest bytes 8)
