-- How numbers are found to be distinct: each leaves a mark in a slot, or is put to the others if there is
-- another mark. Only contracts of private functions use this.
use Rattle.std.specs.Prelude.{◌≡◌, ◌≢◌, ℕ, ◌*◌, ◌<◌, ◌/◌, ◌%◌, ◌^◌, ◌⊎◌, List, ◌∷◌, [], ◌++◌}
use Rattle.std.specs.Prelude.{length, slice_index, slice_set}
use Rattle.std.specs.List.{IsDistinct}
use Rattle.std.specs.Ordering.{nat_cmp, eq_by_cmp}
use Rattle.mc_tables.specs.declared.summary.distinct.TheConstants.{SLOT_MULTIPLIER, MARK_MULTIPLIER}

-- no two of the numbers are equal
abbrev pub AreDistinct : List ℕ → Type 0
AreDistinct numbers = IsDistinct (eq_by_cmp nat_cmp) numbers

-- The upper 32 bits of a number times an odd one, modulo 2^64: all bits of the number decide about them, so
-- that numbers that are alike get different ones (multiplicative hashing: Knuth, The Art of Computer
-- Programming, volume 3, section 6.4).
abbrev pub hash_by : (multiplier number : ℕ) → ℕ
hash_by multiplier number = number * multiplier % 2 ^ 64 / 2 ^ 32

-- the slot of a number among `slots`: a hash of it, scaled down to the number of slots
abbrev pub slot_of : (slots number : ℕ) → ℕ
slot_of slots number = hash_by SLOT_MULTIPLIER number * slots / 2 ^ 32

-- the mark of a number: another hash of it, so that equal numbers have equal marks
abbrev pub mark_of : (number : ℕ) → ℕ
mark_of number = hash_by MARK_MULTIPLIER number % 2 ^ 32

-- the mark in the slot of a number, or 0
abbrev pub mark_in_slot : List ℕ → ℕ → ℕ
mark_in_slot slots number = slice_index slots (slot_of (length slots) number)

-- the number marks its slot, which was empty
pub record TakesSlot (slots others : List ℕ) (number : ℕ) (new_slots new_others : List ℕ) : Type 0 where
  pub within : slot_of (length slots) number < length slots
  pub empty : mark_in_slot slots number ≡ 0
  pub some : mark_of number ≢ 0
  pub put : new_slots ≡ slice_set slots (slot_of (length slots) number) (mark_of number)
  pub same : new_others ≡ others

-- the number was put to the others, since another mark is in its slot
pub record GoesToOthers (slots others : List ℕ) (number : ℕ) (new_slots new_others : List ℕ)
    : Type 0 where
  pub full : mark_in_slot slots number ≢ 0
  pub other : mark_in_slot slots number ≢ mark_of number
  pub same : new_slots ≡ slots
  pub put : new_others ≡ others ++ number ∷ []

-- the number left its mark in its slot, or was put to the others
abbrev pub IsPut : List ℕ → List ℕ → ℕ → List ℕ → List ℕ → Type 0
IsPut slots others number new_slots new_others =
    TakesSlot slots others number new_slots new_others ⊎ GoesToOthers slots others number new_slots new_others
