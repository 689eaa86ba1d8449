-- The summary of a cache's rows: what `audit` keeps of them beside the table of the listed ones.
use Rattle.std.specs.Prelude.{Bool, ℕ, ◌==◌, not, List, ◌∷◌, length, take, filter}
use Rattle.std.specs.Prelude.{map as map_list, Option, Some, None, IfSome, if◌then◌else◌}
use Rattle.std.specs.Coded.{Coded, coded×, coded_ℕ}
use Rattle.std.specs.List.{filter_map, list_any}
use Rattle.std.specs.Option.{option_map}
use Rattle.std.specs.FinMap as map
use Rattle.std.specs.FinSet as set
use Rattle.mc_tables.specs.CacheTable.{EntryValue, IsValidEntry, RowValue, entry_code, key_cmp, key_of}
use Rattle.mc_tables.specs.CacheTable.{same_key}
use Rattle.mc_tables.specs.ListedRows.{is_listed}

-- ---- rows

-- the key of a row that has no entry
abbrev pub unresolved_by : Option EntryValue → ℕ × ℕ → Option (ℕ × ℕ)
unresolved_by None key = Some key
unresolved_by (Some entry) key = None

-- The key of an unresolved row, which the kernel makes for a packet that has no route
-- (ipmr_cache_unresolved in net/ipv4/ipmr.c, which sets the incoming vif to -1).
abbrev pub unresolved_key : RowValue → Option (ℕ × ℕ)
unresolved_key row = unresolved_by row.entry (row.origin, row.group)

-- the key, whose source is 0.0.0.0, and the entry of a (*,G) row
abbrev pub every_source_entry : RowValue → Option ((ℕ × ℕ) × EntryValue)
every_source_entry row =
    if row.origin == 0 then option_map (λ entry. ((row.origin, row.group), entry)) row.entry
    else None

-- whether one of the rows is unresolved and has this key
abbrev pub has_unresolved_row : List RowValue → ℕ × ℕ → Bool
has_unresolved_row rows key = list_any (same_key key) (filter_map unresolved_key rows)

-- the entry of the first (*,G) row that has this group
abbrev pub first_wildcard_entry : List RowValue → ℕ → Option EntryValue
first_wildcard_entry rows group =
    map.find key_cmp (0, group) (filter_map every_source_entry rows)

-- The keys of the (*,G) rows that the kernel looks up for packets of a listed source and group:
-- those of the listed groups, and that of the group 0.0.0.0 (ipmr_cache_find_any in
-- net/ipv4/ipmr.c).
abbrev pub keys_for_every_source : List (ℕ × ℕ) → List (ℕ × ℕ)
keys_for_every_source listed = (0, 0) ∷ map_list (λ key. (0, key.1)) listed

-- whether the group is that of a listed key, or 0.0.0.0
abbrev pub is_listed_group : List (ℕ × ℕ) → ℕ → Bool
is_listed_group listed group = is_listed (Some (keys_for_every_source listed)) (0, group)

-- ---- the summary

-- a key with its group first, so that keys are ordered by group
abbrev pub group_first : ℕ × ℕ → ℕ × ℕ
group_first key = (key.1, key.0)

-- the pairs in ascending order, each of them once
abbrev pub in_order : List (ℕ × ℕ) → List (ℕ × ℕ)
in_order pairs = map.keys (map.from_entries {R = key_cmp} (map_list (λ pair. (pair, tt {0})) pairs))

-- all pairs, or only the first 20
abbrev pub shown_pairs : (all : Bool) → List (ℕ × ℕ) → List (ℕ × ℕ)
shown_pairs all pairs = if all then pairs else take 20 pairs

-- The listed keys that unresolved rows have; the first (*,G) row of each listed group and of
-- 0.0.0.0; how many (S,G) rows have a key that isn't listed; and these keys, all or the 20 lowest,
-- by group and then by source, each with its group first.
pub record SummaryValue : Type 0 where
  pub unresolved : set.FinSet key_cmp
  pub for_every_source : map.FinMap key_cmp EntryValue
  pub unlisted : ℕ
  pub lowest : List (ℕ × ℕ)

-- a map from keys to entries is stored as its pairs
abbrev pub entry_map_code : Coded (map.FinMap key_cmp EntryValue)
entry_map_code = map.code (coded× coded_ℕ coded_ℕ) entry_code

-- the keys of the (S,G) rows that aren't listed
abbrev pub unlisted_keys : List (ℕ × ℕ) → List RowValue → List (ℕ × ℕ)
unlisted_keys listed rows =
    filter (λ key. not (is_listed (Some listed) key)) (filter_map key_of rows)

-- the summary of rows
abbrev pub summary_of : (all : Bool) → List (ℕ × ℕ) → List RowValue → SummaryValue
summary_of all listed rows = record {
  unresolved = set.from_list (filter (is_listed (Some listed)) (filter_map unresolved_key rows));
  -- of two rows of one group the map has the first
  for_every_source = map.from_entries
      (filter (λ exact. is_listed (Some (keys_for_every_source listed)) exact.0)
      (filter_map every_source_entry rows));
  unlisted = length (unlisted_keys listed rows);
  lowest = shown_pairs all (in_order (map_list group_first (unlisted_keys listed rows)));
}

-- the rule of every summary: each entry is valid
abbrev pub HasValidEntries : SummaryValue → Type 0
HasValidEntries summary = (key : ℕ × ℕ) → IfSome (map.get summary.for_every_source key) IsValidEntry

-- ---- look-ups

-- the entry of the first (*,G) row of a group
abbrev pub wildcard_entry : SummaryValue → ℕ → Option EntryValue
wildcard_entry summary group = map.get summary.for_every_source (0, group)

-- a group and its (*,G) entry, if it has one, or else the other group and its entry, if there is
-- one
abbrev pub row_or_else : ℕ → Option EntryValue → Option (ℕ × EntryValue) → Option (ℕ × EntryValue)
row_or_else group None other = other
row_or_else group (Some entry) other = Some (group, entry)

-- the (*,G) entry of a group, or else that of the group 0.0.0.0, with the group that it has
abbrev pub every_source_row : SummaryValue → ℕ → Option (ℕ × EntryValue)
every_source_row summary group =
    row_or_else group (wildcard_entry summary group) (row_or_else 0 (wildcard_entry summary 0) None)
