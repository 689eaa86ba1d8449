-- A group record of a Version 3 report (RFC 3376, sections 4.2.4 to 4.2.10).
use Rattle.std.specs.Prelude.{◌≡◌, ℕ, ◌+◌, ◌*◌, ◌<◌, ◌^◌, List, [], ◌∷◌, ◌++◌, length, drop, take}
use Rattle.std.specs.Prelude.{Option, Some, None, nat_lt, slice_index, if◌then◌else◌}
use Rattle.std.specs.Int.{w16, w32, to_be_bytes, from_be_bytes}
use Rattle.std.specs.List.{flat_map, AllByRecursion}
use Rattle.mc_text.specs.Addr.{IsAddr, octets_of}
use Rattle.mc_igmp.specs.declared.record.Record.{Record}
use Rattle.mc_igmp.specs.Kind.{kind_of}
use Rattle.mc_igmp.specs.Addresses.{addresses_in}

-- The bytes are this record, whole: its type, the length of its auxiliary data in words of 32 bits,
-- the number of its sources, its group, its sources, and its auxiliary data, which are ignored.
pub record IsRecord (bytes : List ℕ) (group_record : Record) : Type 0 where
  pub type : ℕ
  pub auxiliary_words : ℕ
  pub auxiliary : List ℕ
  pub kind : group_record.kind ≡ kind_of type
  pub group_fits : IsAddr group_record.group
  pub sources_fit : AllByRecursion IsAddr group_record.sources
  pub count_fits : length group_record.sources < 2 ^ 16
  pub auxiliary_length : length auxiliary ≡ 4 * auxiliary_words
  pub spelled : bytes ≡ (type ∷ auxiliary_words ∷ to_be_bytes w16 (length group_record.sources))
      ++ octets_of group_record.group ++ flat_map octets_of group_record.sources ++ auxiliary

-- the group in bytes 4 to 7, of a record, and of a report of version 1 or 2
abbrev pub group_at : List ℕ → ℕ
group_at bytes = from_be_bytes w32
    (slice_index bytes 4 ∷ slice_index bytes 5 ∷ slice_index bytes 6 ∷ slice_index bytes 7 ∷ [])

-- how many sources the record has with which the bytes begin
abbrev pub source_count : List ℕ → ℕ
source_count bytes = 256 * slice_index bytes 2 + slice_index bytes 3

-- how many bytes the record has with which the bytes begin
abbrev pub record_size : List ℕ → ℕ
record_size bytes = 8 + 4 * source_count bytes + 4 * slice_index bytes 1

-- the record with which the bytes begin, if it ends within them
abbrev pub record_at : List ℕ → Record
record_at bytes = record {
  kind = kind_of (slice_index bytes 0);
  group = group_at bytes;
  sources = addresses_in (take (4 * source_count bytes) (drop 8 bytes));
}

-- the record with which the bytes begin, if it ends within them, and the bytes after it
unfoldable pub read_record : List ℕ → Option (Record × List ℕ)
read_record bytes =
    if nat_lt (length bytes) (record_size bytes) then None
    else Some (record_at bytes, drop (record_size bytes) bytes)
