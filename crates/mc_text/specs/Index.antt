-- An index, by which a number is looked up among many: the numbers in ascending order, and a mark
-- in the slot of each. Only contracts of private functions use it.
use Rattle.std.specs.Prelude.{◌≢◌, ℕ, ◌<◌, ◌-◌, ◌*◌, ◌/◌, ◌%◌, ◌^◌, List, length, get_or, bit_and}
use Rattle.std.specs.List.{All}
use Rattle.std.specs.List.Sorted.{IsStrictlyIncreasing}

-- the slot among `slots`, a power of two, that marks the place of a number: of the number times a large
-- odd number, the bits 48 to 63, and of these as many of the lowest as number the slots
abbrev pub index_slot : (slots number : ℕ) → ℕ
index_slot slots number = bit_and (number * 11400714819323198485 % 2 ^ 64 / 2 ^ 48) (slots - 1)

-- the slot of each number is marked
abbrev pub AreMarked : (marks numbers : List ℕ) → Type 0
AreMarked marks numbers =
    All (λ number. get_or marks (index_slot (length marks) number) 0 ≢ 0) numbers

-- the numbers ascend, and the slot of each is marked
pub record IsIndex (numbers marks : List ℕ) : Type 0 where
  pub ascending : IsStrictlyIncreasing numbers
  pub slots : 0 < length marks
  pub marked : AreMarked marks numbers
