-- A cache of which not all rows are kept: of its (S,G) rows only those whose source and group are
-- listed, and all of its other rows.
use Rattle.std.specs.Prelude.{◌≡◌, ℕ, ◌==◌, ◌&&◌, Bool, true, false, List, Option, Some, None, Result}
use Rattle.std.specs.Prelude.{Ok, filter}
use Rattle.std.specs.List.{list_any}
use Rattle.std.specs.Coded.{Coded, coded×, coded_ℕ}
use Rattle.std.specs.FinMap as map
use Rattle.std.specs.FinSet as set
use Rattle.mc_text.specs.declared.text.addr.Order.{Order}
use Rattle.mc_tables.specs.declared.fault.TableFault.{TableFault}
use Rattle.mc_text.specs.Steps.{◌>>=◌}
use Rattle.mc_tables.specs.CacheTable.{RowValue, CacheValue, key_cmp, key_of, table_of}
use Rattle.mc_tables.specs.CacheReading.{cache_rows_in}

-- the keys that are listed; where there is no list, all are
abbrev pub Listed : Type 0
Listed = Option (List (ℕ × ℕ))

-- whether the key is listed
abbrev pub is_listed : Listed → ℕ × ℕ → Bool
is_listed None key = true
is_listed (Some keys) key = list_any (λ listed. (listed.0 == key.0) && (listed.1 == key.1)) keys

-- whether a row of this key is kept: it has none, or its key is listed
abbrev pub is_kept_key : Listed → Option (ℕ × ℕ) → Bool
is_kept_key listed None = true
is_kept_key listed (Some key) = is_listed listed key

-- whether the row is kept
abbrev pub is_kept : Listed → RowValue → Bool
is_kept listed row = is_kept_key listed (key_of row)

-- the rows that are kept, in their order
abbrev pub kept_rows : Listed → List RowValue → List RowValue
kept_rows listed rows = filter (is_kept listed) rows

-- the table of those rows of a text that are kept, or the first fault of the whole text
abbrev pub listed_in : Order → Listed → List ℕ → Result CacheValue TableFault
listed_in order listed text =
    cache_rows_in order text >>= λ rows. Ok (table_of (kept_rows listed rows))

-- ---- listed keys as a set

-- the set of the keys that are listed; where there is none, all are
abbrev pub ListedSet : Type 0
ListedSet = Option (set.FinSet key_cmp)

-- a set of keys is stored as its keys
abbrev pub key_set_code : Coded (set.FinSet key_cmp)
key_set_code = set.code (coded× coded_ℕ coded_ℕ)

-- the set of the listed keys
abbrev pub listed_set : Listed → ListedSet
listed_set None = None
listed_set (Some keys) = Some (set.from_list keys)

-- whether the key is listed, by the set
abbrev pub set_has_key : ListedSet → ℕ × ℕ → Bool
set_has_key None key = true
set_has_key (Some keys) key = set.contains keys key

-- whether a row of this key is kept, by the set
abbrev pub is_key_kept_by_set : ListedSet → Option (ℕ × ℕ) → Bool
is_key_kept_by_set listed None = true
is_key_kept_by_set listed (Some key) = set_has_key listed key

-- whether the row is kept, by the set
abbrev pub is_kept_by_set : ListedSet → RowValue → Bool
is_kept_by_set listed row = is_key_kept_by_set listed (key_of row)

-- ---- the listed part

-- `part` has exactly those entries of the whole table whose keys are listed, and the groups of all
-- its (*,G) rows.
pub record IsListedPart (listed : Listed) (part whole : CacheValue) : Type 0 where
  pub entries : (key : ℕ × ℕ) → is_listed listed key ≡ true
      → map.get part.entries key ≡ map.get whole.entries key
  pub others : (key : ℕ × ℕ) → is_listed listed key ≡ false → map.get part.entries key ≡ None
  pub wildcards : part.wildcards ≡ whole.wildcards
