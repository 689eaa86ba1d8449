-- What the look-ups of a vif table find: the vif of an index, and the index of a device.
use Rattle.std.specs.Prelude.{◌≡◌, ◌≢◌, ◌≤◌, ℕ, List, find, Option, None, IsSome, IsSomeAnd}
use Rattle.std.specs.Prelude.{if◌then◌else◌}
use Rattle.std.specs.Option.{option_map}
use Rattle.std.specs.Ordering.{nat_cmp}
use Rattle.std.specs.Str.{bytes_eq}
use Rattle.std.specs.FinMap.{FinMap, get, entries}
use Rattle.mc_tables.specs.VifTable.{VifValue, no_device}

-- there is a vif of this index, and it has this device
abbrev pub HasDevice : FinMap nat_cmp VifValue → ℕ → List ℕ → Type 0
HasDevice vifs index device = IsSomeAnd (get vifs index) (λ vif. vif.device ≡ device)

-- The rules of every table, whatever text it was read from: indexes are 0 to 31, and two vifs have
-- the same device only if it is `none`.
pub record IsValidVifTable (vifs : FinMap nat_cmp VifValue) : Type 0 where
  pub numbered : (index : ℕ) → IsSome (get vifs index) → index ≤ 31
  pub devices_differ : (device : List ℕ) (index other : ℕ) → device ≢ no_device →
      HasDevice vifs index device → HasDevice vifs other device → index ≡ other

-- the index of the first row that has this device
abbrev pub first_index_with : List ℕ → List (ℕ × VifValue) → Option ℕ
first_index_with device rows =
    option_map (λ row. row.0) (find (λ row. bytes_eq row.1.device device) rows)

-- the index that is found for a device; none is for `none`, the word for a vif without a device
abbrev pub index_of : FinMap nat_cmp VifValue → List ℕ → Option ℕ
index_of vifs device =
    if bytes_eq device no_device then None else first_index_with device (entries vifs)
