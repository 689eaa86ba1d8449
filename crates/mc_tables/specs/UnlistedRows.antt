-- The (S,G) rows of a cache that aren't listed: of each only the key and the line are kept, by
-- which one is found that repeats an earlier one.
use Rattle.std.specs.Prelude.{ℕ, nat_lt, Bool, ◌&&◌, if◌then◌else◌, List, [], ◌∷◌, map, filter, Option}
use Rattle.std.specs.Prelude.{Some, None, Result, Ok, Err}
use Rattle.std.specs.List.{list_any}
use Rattle.std.specs.Ordering.{nat_cmp, ordering_then}
use Rattle.std.specs.declared.cmp.Ordering.{Ordering}
use Rattle.mc_text.specs.Pair.{pair_number}
use Rattle.mc_tables.specs.declared.fault.TableFault.{TableFault}
use Rattle.mc_tables.specs.declared.fault.TableFaultKind.TheVariants.{RepeatedEntry}
use Rattle.mc_tables.specs.CacheTable.{key_cmp, same_key}

-- a row's key, and its line
abbrev pub UnlistedRow : Type 0
UnlistedRow = (ℕ × ℕ) × ℕ

-- the row's key as one number
abbrev pub key_number : UnlistedRow → ℕ
key_number row = pair_number row.0

-- the order of rows: by key, and then by line
abbrev pub row_cmp : UnlistedRow → UnlistedRow → Ordering
row_cmp row other = ordering_then (key_cmp row.0 other.0) (nat_cmp row.1 other.1)

-- whether a row repeats `earlier`: it has the same key, on a later line
abbrev pub repeats : UnlistedRow → UnlistedRow → Bool
repeats row earlier = same_key earlier.0 row.0 && nat_lt earlier.1 row.1

-- whether the row repeats one of these
abbrev pub is_repeat : List UnlistedRow → UnlistedRow → Bool
is_repeat rows row = list_any (repeats row) rows

-- the lesser of a number and another one, if there is another
abbrev pub lesser_or : ℕ → Option ℕ → ℕ
lesser_or number None = number
lesser_or number (Some other) = if nat_lt other number then other else number

-- the least of numbers, if there are any
abbrev pub least : List ℕ → Option ℕ
least [] = None
least (number ∷ numbers) = Some (lesser_or number (least numbers))

-- the first line whose row repeats an earlier one
unfoldable pub first_repeat : List UnlistedRow → Option ℕ
first_repeat rows = least (map (λ row. row.1) (filter (is_repeat rows) rows))

-- the fault of a line whose row repeats another, if there is such a line
abbrev pub repeat_fault : Option ℕ → Result (Unit {0}) TableFault
repeat_fault None = Ok tt
repeat_fault (Some line) = Err (record { line = line; kind = RepeatedEntry })

-- nothing, if none of the rows repeats another, or else the fault of the first that does
abbrev pub without_repeat : List UnlistedRow → Result (Unit {0}) TableFault
without_repeat rows = repeat_fault (first_repeat rows)
