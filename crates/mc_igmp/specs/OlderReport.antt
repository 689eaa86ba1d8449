-- Reports of versions 1 and 2 of IGMP, and the record that each counts as.
use Rattle.std.specs.Prelude.{◌≡◌, ◌⊎◌, ℕ, List, [], ◌∷◌, Option, Some, None, slice_index}
use Rattle.mc_igmp.specs.declared.record.Kind.TheVariants.{Exclude}
use Rattle.mc_igmp.specs.declared.record.Record.{Record}
use Rattle.mc_igmp.specs.Record.{group_at}

-- the record that a report of version 1 or 2 for a group counts as: MODE_IS_EXCLUDE with no source
-- (RFC 3376, section 7.3.2)
abbrev pub older_record : ℕ → Record
older_record group = record { kind = Exclude; group = group; sources = [] }

-- that record as a list, if there is a group
abbrev pub older_records : Option ℕ → List Record
older_records None = []
older_records (Some group) = older_record group ∷ []

-- The bytes have the type 0x12 (version 1: RFC 1112, appendix I) or 0x16 (version 2: RFC 2236,
-- section 2) and their group in bytes 4 to 7. They count as one record. Bytes after the eighth count
-- for the checksum only (RFC 2236, section 2.5).
pub record IsOlderReport (bytes : List ℕ) (records : List Record) : Type 0 where
  pub type : (slice_index bytes 0 ≡ 0x12) ⊎ (slice_index bytes 0 ≡ 0x16)
  pub one : records ≡ older_record (group_at bytes) ∷ []
