-- A source and a group as one number of 64 bits.
use Rattle.std.specs.Prelude.{ℕ, ◌+◌, ◌*◌, ◌/◌, ◌%◌, ◌^◌}

-- The number of a source and a group. The source is its upper half, so that numbers are ordered as
-- the pairs are: by source, and then by group.
abbrev pub pair_number : ℕ × ℕ → ℕ
pair_number pair = pair.0 * 2 ^ 32 + pair.1

-- the source and the group that a number stands for
abbrev pub pair_of : ℕ → ℕ × ℕ
pair_of number = (number / 2 ^ 32, number % 2 ^ 32)
