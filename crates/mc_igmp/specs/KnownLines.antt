-- Lines of a report list that were read before, each with its records. Only contracts of private functions
-- use these definitions.
use Rattle.std.specs.Prelude.{◌≡◌, ℕ, ◌≤◌, ◌⊎◌, true, List, [], ◌∷◌, ◌++◌, Ok}
use Rattle.std.specs.List.{All}
use Rattle.mc_text.specs.Lines.{LineText}
use Rattle.mc_igmp.specs.declared.record.Record.{Record}
use Rattle.mc_igmp.specs.declared.known_lines.KnownLine.{KnownLine}
use Rattle.mc_igmp.specs.ReadingList.{read_line}
use Rattle.mc_igmp.specs.Wants.{IsListed}

-- the line of these bytes, ended, with this number
abbrev pub ended_line : (number : ℕ) → (bytes : List ℕ) → LineText
ended_line number bytes = record { number = number; bytes = bytes; ended = true }

-- wherever the line comes, it is read as these records, and they are in the list
pub record IsKnownLine (list : List Record) (known : KnownLine) : Type 0 where
  pub read : (number : ℕ) → number ≤ 65536 → read_line (ended_line number known.text.items) ≡ Ok known.records
  pub listed : IsListed known.records list

-- each of the lines is so
abbrev pub AreKnownLines : List KnownLine → (list : List Record) → Type 0
AreKnownLines lines list = All (IsKnownLine list) lines

-- the lines are the old ones, or these and one more, of this text and with these records
abbrev pub AddsLine : (text : List ℕ) → List Record → (old new : List KnownLine) → Type 0
AddsLine text records old new = (new ≡ old) ⊎ ((added : KnownLine) × (new ≡ old ++ added ∷ [])
    × (added.text.items ≡ text) × (added.records ≡ records))
