-- Consecutive group records, as those of a Version 3 report (RFC 3376, sections 4.2.3 and 4.2.4).
use Rattle.std.specs.Prelude.{◌≡◌, ℕ, zero, suc, ◌+◌, List, [], ◌∷◌, ◌++◌, Option, Some, None}
use Rattle.std.specs.Prelude.{Result, Ok, Err, false}
use Rattle.std.specs.List.{AllByRecursion}
use Rattle.mc_igmp.specs.declared.record.Record.{Record}
use Rattle.mc_igmp.specs.Kind.{is_change}
use Rattle.mc_igmp.specs.Record.{IsRecord, read_record}

-- the bytes are these records, whole, and nothing else
abbrev pub AreRecords : List ℕ → List Record → Type 0
AreRecords bytes [] = bytes ≡ []
AreRecords bytes (first ∷ others) =
    (own : List ℕ) × (rest : List ℕ) × (bytes ≡ own ++ rest)
    × IsRecord own first × AreRecords rest others

-- the record that was read, and before those that `others` gives of the bytes after it; none if
-- none was read
abbrev pub with_other_records : Option (Record × List ℕ) → (List ℕ → List Record) → List Record
with_other_records None others = []
with_other_records (Some found) others = found.0 ∷ others found.1

-- the first `count` records of the bytes, or those before the first that doesn't end within them
unfoldable pub records_in : (count : ℕ) → (bytes : List ℕ) → List Record
records_in zero bytes = []
records_in (suc count) bytes = with_other_records (read_record bytes) (records_in count)

-- what `others` gives of the bytes after the record that was read, or its number if it couldn't be
-- read
abbrev pub after_other_records : ℕ → Option (Record × List ℕ) → (List ℕ → Result (List ℕ) ℕ)
    → Result (List ℕ) ℕ
after_other_records number None others = Err number
after_other_records number (Some found) others = others found.1

-- the bytes after the first `count` records, or the number of the first record that doesn't end
-- within the bytes, where the first record has the number `number`
unfoldable pub after_records : (number count : ℕ) → (bytes : List ℕ) → Result (List ℕ) ℕ
after_records number zero bytes = Ok bytes
after_records number (suc count) bytes =
    after_other_records number (read_record bytes) (after_records (number + 1) count)

-- the bytes are `count` records, and nothing else
abbrev pub AreWholeRecords : ℕ → List ℕ → Type 0
AreWholeRecords count bytes = after_records 1 count bytes ≡ Ok []

-- no record reports a change
abbrev pub HaveNoChanges : List Record → Type 0
HaveNoChanges records = AllByRecursion (λ group_record. is_change group_record.kind ≡ false) records
