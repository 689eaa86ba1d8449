-- A part's name in memory: 64 bytes, of which the first are the name and the others zeros, and the
-- name's length.
use Rattle.std.specs.Prelude.{◌≡◌, ℕ, ◌≤◌, List, length, take}
use Rattle.mc_bundle.specs.declared.part_name.PartName.TheInside.{Inside}
use Rattle.mc_bundle.specs.Bundle.{IsPartName, max_name}
use Rattle.std.specs.Prelude.{◌-◌, ◌++◌, replicate}

-- the bytes of a name, followed by zeros up to 64
abbrev pub padded : List ℕ → List ℕ
padded name = name ++ replicate (max_name - length name) 0

-- the name in these fields
abbrev pub name_of : Inside → List ℕ
name_of inside = take inside.length inside.bytes

-- these fields have a part's name, and zeros after it
pub record IsNameInside (inside : Inside) : Type 0 where
  pub name : IsPartName (name_of inside)
  pub within : inside.length ≤ max_name
  pub full : length inside.bytes ≡ max_name
  pub zeros : inside.bytes ≡ padded (name_of inside)

-- the fields of a name
abbrev pub inside_of : List ℕ → Inside
inside_of name = record { bytes = padded name; length = length name }
