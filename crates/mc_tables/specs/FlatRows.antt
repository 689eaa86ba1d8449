-- Outgoing vifs that are stored apart from their rows: those of one row while it is read, and those
-- of many rows as lists in one list, each list with a head.
use Rattle.std.specs.Prelude.{ℕ, ◌+◌, ◌*◌, ◌<◌, ◌≤◌, List, length, map, take, drop, Option}
use Rattle.std.specs.Option.{option_map}
use Rattle.std.specs.List.{AllByRecursion}
use Rattle.mc_tables.specs.declared.cache.cache_row.CacheRow.{CacheRow}
use Rattle.mc_tables.specs.declared.cache.entry.Oif.{Oif}
use Rattle.mc_tables.specs.declared.cache.flat_oifs.FlatList.{FlatList}
use Rattle.mc_tables.specs.CacheTable.{EntryValue, RowValue}

-- ---- one row

-- the entry of an incoming vif and outgoing ones; none without an incoming vif
abbrev pub entry_with : Option ℕ → List Oif → Option EntryValue
entry_with iif oifs = option_map (λ incoming. record { iif = incoming; oifs = oifs }) iif

-- the row that was read up to its outgoing vifs, with these
abbrev pub row_with_oifs : CacheRow → List Oif → RowValue
row_with_oifs row oifs =
    record { group = row.group; origin = row.origin; entry = entry_with row.iif oifs }

-- ---- lists

-- the lists, each with its head, and for how many more lists and outgoing vifs there is room
pub record FlatListsValue (H : Type 0) : Type 0 where
  pub lists : List (H × List Oif)
  pub lists_left : ℕ
  pub oifs_left : ℕ

-- there is room for one more list, of `oifs` outgoing vifs
abbrev pub HasRoom : {H : Type 0} → FlatListsValue H → ℕ → Type 0
HasRoom flat oifs = (0 < flat.lists_left) × (oifs ≤ flat.oifs_left)

-- a list with its head: `count` of all outgoing vifs, from `start` on
abbrev pub list_of : {H : Type 0} → List Oif → FlatList H → H × List Oif
list_of oifs list = (list.head, take list.count (drop list.start oifs))

-- all lists, each with its head
abbrev pub lists_of : {H : Type 0} → List (FlatList H) → List Oif → List (H × List Oif)
lists_of lists oifs = map (list_of oifs) lists

-- each list is within all outgoing vifs, of which there are at most 32 for each list
pub record AreFlatLists {H : Type 0} (lists : List (FlatList H)) (oifs : List Oif) : Type 0 where
  pub within : AllByRecursion (λ list. list.start + list.count ≤ length oifs) lists
  pub bounded : length oifs ≤ 32 * length lists

-- the entry of a list whose head is the incoming vif
abbrev pub entry_of : ℕ × List Oif → EntryValue
entry_of list = record { iif = list.0; oifs = list.1 }

-- the entries of lists whose heads are the incoming vifs
abbrev pub entries_of : List (ℕ × List Oif) → List EntryValue
entries_of lists = map entry_of lists
