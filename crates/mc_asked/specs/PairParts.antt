-- Pairs of addresses that several parts have, as LANs have wants, each with the numbers of the parts that
-- have it. An audit shows all pairs, or the 20 lowest.
use Rattle.std.specs.Prelude.{ℕ, ◌-◌, ◌==◌, Bool, false, List, ◌∷◌, [], ◌++◌, filter, flat_map, length, map}
use Rattle.std.specs.Prelude.{Option, None, Some, if◌then◌else◌, slice_get}
use Rattle.mc_tables.specs.ListedRows.{is_listed}
use Rattle.mc_tables.specs.Summary.{in_order, shown_pairs}
use Rattle.mc_theory.specs.Lists.{below}

-- the numbers of the parts that have a pair, in order
abbrev pub parts_with : List (List (ℕ × ℕ)) → ℕ × ℕ → List ℕ
parts_with parts pair = filter (λ number. is_listed (slice_get parts number) pair) (below (length parts))

-- a pair with the parts that have it
abbrev pub with_parts : List (List (ℕ × ℕ)) → ℕ × ℕ → (ℕ × ℕ) × List ℕ
with_parts parts pair = (pair, parts_with parts pair)

-- the pairs of all parts in ascending order, each once: all, or the 20 lowest
abbrev pub shown_of_parts : (all : Bool) → List (List (ℕ × ℕ)) → List (ℕ × ℕ)
shown_of_parts all parts = shown_pairs all (in_order (flat_map (λ part. part) parts))

-- these pairs, each with the parts that have it
abbrev pub shared_pairs : (all : Bool) → List (List (ℕ × ℕ)) → List ((ℕ × ℕ) × List ℕ)
shared_pairs all parts = map (with_parts parts) (shown_of_parts all parts)

-- ---- a number after others

-- whether there is a last number and it is this one
abbrev pub is_last : (number : ℕ) → Option ℕ → Bool
is_last number None = false
is_last number (Some last) = last == number

-- the numbers, and then this one, unless it is their last already
abbrev pub push_unless_last : (number : ℕ) → List ℕ → List ℕ
push_unless_last number numbers =
    if is_last number (slice_get numbers (length numbers - 1)) then numbers
    else numbers ++ number ∷ []
