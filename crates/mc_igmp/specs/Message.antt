-- The IGMP messages that bytes are (RFC 3376, section 4).
use Rattle.std.specs.Prelude.{◌≡◌, ◌⊎◌, ℕ, ◌+◌, ◌*◌, List, [], ◌++◌, length, drop, slice_index}
use Rattle.mc_igmp.specs.declared.record.Record.{Record}
use Rattle.mc_igmp.specs.declared.message.Message.{Message}
use Rattle.mc_igmp.specs.declared.message.Message.TheVariants.{Report, Other}
use Rattle.mc_igmp.specs.Checksum.{IsWellFormed}
use Rattle.mc_igmp.specs.OlderReport.{IsOlderReport}
use Rattle.mc_igmp.specs.Records.{AreRecords}

-- how many group records a Version 3 report has, in bytes 6 and 7 (section 4.2.3)
abbrev pub record_count : List ℕ → ℕ
record_count bytes = 256 * slice_index bytes 6 + slice_index bytes 7

-- The bytes are a Version 3 report: its records follow one another from byte 8, as many as bytes 6 and
-- 7 give. Bytes after the last record count for the checksum only (section 4.2.11).
pub record IsReport (bytes : List ℕ) (records : List Record) : Type 0 where
  pub own : List ℕ
  pub ignored : List ℕ
  pub type : slice_index bytes 0 ≡ 0x22
  pub counted : length records ≡ record_count bytes
  pub parts : drop 8 bytes ≡ own ++ ignored
  pub whole : AreRecords own records

-- the type is that of a report, of one of the three versions
abbrev pub IsReportType : ℕ → Type 0
IsReportType type = (type ≡ 0x12) ⊎ ((type ≡ 0x16) ⊎ (type ≡ 0x22))

-- The bytes are this message. Of a message that is no report only the type is kept.
abbrev pub IsMessage : List ℕ → Message → Type 0
IsMessage bytes (Report records) =
    IsWellFormed bytes × (IsReport bytes records ⊎ IsOlderReport bytes records)
IsMessage bytes (Other type) =
    IsWellFormed bytes × (slice_index bytes 0 ≡ type) × (¬ (IsReportType type))

-- the records of a message; one that is no report has none
abbrev pub records_of : Message → List Record
records_of (Report records) = records
records_of (Other type) = []
