-- What was read of an input by a function that calls `read` many times.
use Rattle.std.specs.Prelude.{◌≡◌, ℕ, ◌≤◌, Bool, true, false, List, ◌++◌, length, Option}
use Rattle.std.specs.Io.KnownBytes.{Consumes}
use Rattle.mc_bundle.specs.declared.io.input_bytes.ReadFault.{ReadFault}
use Rattle.mc_bundle.specs.declared.io.input_bytes.ReadFault.TheVariants.{Read, Memory}

-- whether the fault is that a read failed, and not that memory ran out
abbrev pub is_read : ReadFault → Bool
is_read Read = true
is_read Memory = false

-- some bytes were read, and appended to the old ones
abbrev pub ReadsOnto : (remaining later : Option (List ℕ)) → (old new : List ℕ) → Type 0
ReadsOnto remaining later old new = (bytes : List ℕ) × Consumes remaining later bytes × (new ≡ old ++ bytes)

-- at most `limit` bytes were read
abbrev pub ConsumesUpTo : (limit : ℕ) → (remaining later : Option (List ℕ)) → Type 0
ConsumesUpTo limit remaining later =
    (bytes : List ℕ) × (length bytes ≤ limit) × Consumes remaining later bytes
