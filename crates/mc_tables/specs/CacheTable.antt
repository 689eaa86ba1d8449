-- What a text of /proc/net/ip_mr_cache denotes: rows, and the table that they make. The kernel
-- prints a line in ipmr_mfc_seq_show of net/ipv4/ipmr.c, by "%08X %08X %-3hd", " %8lu %8lu %8lu",
-- and for each outgoing vif " %2d:%-3d". An (S,G) row is a resolved one whose origin isn't 0.0.0.0,
-- and a (*,G) row a resolved one whose origin is.
use Rattle.std.specs.Prelude.{◌≡◌, ℕ, ◌≤◌, ◌==◌, nat_eq, Bool, IsTrue, List, [], ◌∷◌, ◌++◌, length}
use Rattle.std.specs.Prelude.{map as map_list, Option, Some, None, if◌then◌else◌, IfSome, codes}
use Rattle.std.specs.Prelude.{refl}
use Rattle.std.specs.List.{IsDistinct, AllByRecursion, filter_map}
use Rattle.std.specs.List.Sorted.{IsStrictlyIncreasing}
use Rattle.std.specs.Option.{option_map}
use Rattle.std.specs.Ordering.{nat_cmp, ordering_then, eq_by_cmp}
use Rattle.std.specs.declared.cmp.Ordering.{Ordering}
use Rattle.std.specs.Coded.{Coded, code_by, coded×, coded_list, coded_ℕ}
use Rattle.std.specs.FinMap as map
use Rattle.std.specs.FinSet as set
use Rattle.mc_text.specs.declared.text.addr.Order.{Order}
use Rattle.mc_text.specs.Lines.{LineText, words_of}
use Rattle.mc_tables.specs.declared.cache.entry.Oif.{Oif}
use Rattle.mc_tables.specs.TableWords.{is_counter, WordDenotesNumber, WordDenotesAddress}
use Rattle.mc_tables.specs.TableLines.{HasHeader, EachDenotes}

-- ---- the lines

-- a word `n:t` denotes an outgoing vif and its threshold
pub record WordDenotesOif (word : List ℕ) (oif : ℕ × ℕ) : Type 0 where
  pub vif : List ℕ
  pub threshold : List ℕ
  pub colon : word ≡ vif ++ 58 ∷ threshold
  pub vif_number : WordDenotesNumber 0 31 vif oif.0
  pub threshold_number : WordDenotesNumber 1 254 threshold oif.1

-- a vif and a threshold, as an outgoing vif
abbrev pub to_oif : ℕ × ℕ → Oif
to_oif pair = record { vif = pair.0; threshold = pair.1 }

-- vifs, each with its threshold, as outgoing vifs in ascending order
abbrev pub oifs_by_vif : map.FinMap nat_cmp ℕ → List Oif
oifs_by_vif thresholds = map_list to_oif (map.entries thresholds)

-- words denote outgoing vifs, each vif once; they are listed in ascending order
pub record WordsDenoteOifs (words : List (List ℕ)) (oifs : List Oif) : Type 0 where
  pub denoted : List (ℕ × ℕ)
  pub each : EachDenotes WordDenotesOif words denoted
  pub vifs_differ : IsDistinct nat_eq (map_list (λ oif. oif.0) denoted)
  pub ascending : oifs ≡ oifs_by_vif (map.from_entries denoted)

-- what a resolved row shows: the incoming vif, and the outgoing vifs, ascending
pub record EntryValue : Type 0 where
  pub iif : ℕ
  pub oifs : List Oif

-- the word of the incoming vif and those of the outgoing ones denote an entry; `-1` without
-- outgoing words denotes none, as in an unresolved row
abbrev pub WordsDenoteEntry : List ℕ → List (List ℕ) → Option EntryValue → Type 0
WordsDenoteEntry iif outgoing None = (iif ≡ codes "-1") × (outgoing ≡ [])
WordsDenoteEntry iif outgoing (Some entry) =
    WordDenotesNumber 0 31 iif entry.iif × WordsDenoteOifs outgoing entry.oifs

-- a row: its group, its origin, which is the source or in a (*,G) row 0.0.0.0, and its entry,
-- unless the row is unresolved
pub record RowValue : Type 0 where
  pub group : ℕ
  pub origin : ℕ
  pub entry : Option EntryValue

-- Words denote a row: its group, its origin, its incoming vif, three counters (packets, bytes,
-- packets from a wrong vif), and its outgoing vifs.
abbrev pub WordsDenoteRow : Order → List (List ℕ) → RowValue → Type 0
WordsDenoteRow order (group ∷ origin ∷ iif ∷ packets ∷ bytes ∷ wrong_if ∷ outgoing) row =
    WordDenotesAddress order group row.group × WordDenotesAddress order origin row.origin
    × IsTrue (is_counter packets) × IsTrue (is_counter bytes) × IsTrue (is_counter wrong_if)
    × WordsDenoteEntry iif outgoing row.entry
WordsDenoteRow order words row = ⊥

-- a line denotes a row by its words, and a line feed ends it
pub record LineDenotesRow (order : Order) (line : LineText) (row : RowValue) : Type 0 where
  pub ended : IsTrue line.ended
  pub words : WordsDenoteRow order (words_of line.bytes) row

-- ---- the rows

-- a key is a source and a group; keys are ordered by source and then by group
abbrev pub key_cmp : ℕ × ℕ → ℕ × ℕ → Ordering
key_cmp key other = ordering_then (nat_cmp key.0 other.0) (nat_cmp key.1 other.1)

-- whether two keys are equal
abbrev pub same_key : ℕ × ℕ → ℕ × ℕ → Bool
same_key = eq_by_cmp key_cmp

-- the key and the entry of an (S,G) row
abbrev pub exact_entry : RowValue → Option ((ℕ × ℕ) × EntryValue)
exact_entry row =
    if row.origin == 0 then None
    else option_map (λ entry. ((row.origin, row.group), entry)) row.entry

-- the key of an (S,G) row
abbrev pub key_of : RowValue → Option (ℕ × ℕ)
key_of row = option_map (λ exact. exact.0) (exact_entry row)

-- the group of a (*,G) row
abbrev pub wildcard_group : RowValue → Option ℕ
wildcard_group row = if row.origin == 0 then option_map (λ _. row.group) row.entry else None

-- a text denotes these rows, at most 65,536, in the order of its lines; no two (S,G) rows have the
-- same source and group
pub record DenotesCacheRows (order : Order) (text : List ℕ) (rows : List RowValue) : Type 0 where
  pub lines : List LineText
  pub header : HasHeader (codes "Group") text lines
  pub denoted : EachDenotes (LineDenotesRow order) lines rows
  pub count : length rows ≤ 65536
  pub keys_differ : IsDistinct same_key (filter_map key_of rows)

-- ---- the table

-- A cache's table: its (S,G) entries by source and group, the same entries numbered in the order of
-- their lines, and the groups of its (*,G) rows.
pub record CacheValue : Type 0 where
  pub entries : map.FinMap key_cmp EntryValue
  pub numbered : List EntryValue
  pub wildcards : set.FinSet nat_cmp

-- the table that rows make
abbrev pub table_of : List RowValue → CacheValue
table_of rows = record {
  entries = map.from_entries (filter_map exact_entry rows);
  numbered = map_list (λ exact. exact.1) (filter_map exact_entry rows);
  wildcards = set.from_list (filter_map wildcard_group rows);
}

-- The rules of every entry: vifs are 0 to 31, the outgoing ones ascend, so that each is there once,
-- and thresholds are 1 to 254.
pub record IsValidEntry (entry : EntryValue) : Type 0 where
  pub incoming : entry.iif ≤ 31
  pub ascending : IsStrictlyIncreasing (map_list (λ oif. oif.vif) entry.oifs)
  pub ranges : AllByRecursion
      (λ oif. (oif.vif ≤ 31) × (1 ≤ oif.threshold) × (oif.threshold ≤ 254)) entry.oifs

-- The rules of every table, whatever text it was read from: each entry is valid, and none is for the
-- source 0.0.0.0.
pub record IsValidCache (table : CacheValue) : Type 0 where
  pub entries : (key : ℕ × ℕ) → IfSome (map.get table.entries key) IsValidEntry
  pub sources : (group : ℕ) → map.get table.entries (0, group) ≡ None

-- a text denotes a table: that of its rows
pub record DenotesCache (order : Order) (text : List ℕ) (table : CacheValue) : Type 0 where
  pub rows : List RowValue
  pub lines : DenotesCacheRows order text rows
  pub as_table : table ≡ table_of rows

-- an outgoing vif is stored as its fields
abbrev pub oif_code : Coded Oif
oif_code =
    code_by (ℕ × ℕ) (coded× coded_ℕ coded_ℕ) (λ oif. (oif.vif, oif.threshold))
    (λ stored. record { vif = stored.0; threshold = stored.1 }) (λ _. refl)

-- an entry is stored as its fields
abbrev pub entry_code : Coded EntryValue
entry_code =
    code_by (ℕ × List Oif) (coded× coded_ℕ (coded_list oif_code)) (λ entry. (entry.iif, entry.oifs))
    (λ stored. record { iif = stored.0; oifs = stored.1 }) (λ _. refl)

-- a table is stored as its fields
abbrev pub cache_code : Coded CacheValue
cache_code =
    code_by (map.FinMap key_cmp EntryValue × (List EntryValue × set.FinSet nat_cmp))
    (coded× (map.code (coded× coded_ℕ coded_ℕ) entry_code)
    (coded× (coded_list entry_code) (set.code coded_ℕ)))
    (λ table. (table.entries, (table.numbered, table.wildcards)))
    (λ stored. record { entries = stored.0; numbered = stored.1.0; wildcards = stored.1.1 }) (λ _. refl)
