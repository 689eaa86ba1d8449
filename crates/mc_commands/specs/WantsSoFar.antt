-- A report list that `wants` reads piece by piece (WantsRun). Only contracts of private functions use these
-- definitions.
use Rattle.std.specs.Prelude.{◌≡◌, ◌↔◌, ℕ, Bool, IsTrue, List, ◌++◌, Option, Result, Ok}
use Rattle.std.specs.Io.KnownBytes.{Consumes}
use Rattle.mc_text.specs.Steps.{◌>>=◌}
use Rattle.mc_igmp.specs.declared.record.Record.{Record}
use Rattle.mc_igmp.specs.declared.fault.ListFault.{ListFault}
use Rattle.mc_igmp.specs.ListSoFar.{ListSoFar, list_if}
use Rattle.mc_igmp.specs.Wants.{Wants}

-- the records that were read before, and then those with which reading ends
abbrev pub prepend_records : List Record → Result (List Record) ListFault → Result (List Record) ListFault
prepend_records seen read = read >>= λ rest. Ok (seen ++ rest)

-- These bytes were read. Their complete records were read and dropped, and `wanted` says whether one of them
-- wants what the source sends to the group.
pub record ReadsPiece (old new : ListSoFar) (bytes : List ℕ) (group source : ℕ) (wanted : Bool)
    : Type 0 where
  pub seen : List Record
  pub goes_on : (more : List ℕ) → list_if old (bytes ++ more) ≡ prepend_records seen (list_if new more)
  pub wants : IsTrue wanted ↔ Wants seen group source

-- The bytes that an input gave were read, and `wanted` says whether one of their complete records wants what
-- the source sends to the group.
abbrev pub ReadsPieces : Option (List ℕ) → Option (List ℕ) → ListSoFar → ListSoFar → ℕ → ℕ → Bool
    → Type 0
ReadsPieces contents left old new group source wanted =
    (bytes : List ℕ) × Consumes contents left bytes × ReadsPiece old new bytes group source wanted
