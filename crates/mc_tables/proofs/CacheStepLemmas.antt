-- A table that grows row by row is the table of all the rows.
use Rattle.std.proofs.Common.{◌≡◌, ℕ, false, List, [], ◌∷◌, ◌++◌, Option}
use Rattle.std.proofs.Common.{Some, None, Ok, refl, sym, ap, ◌∙◌, inl, inr}
use Rattle.std.specs.Prelude.{not, is_some, map as map_list}
use Rattle.std.specs.Option.{option_map}
use Rattle.std.specs.List.{filter_map, cons_option}
use Rattle.std.specs.Ordering.{nat_cmp}
use Rattle.std.specs.FinMap as map
use Rattle.std.specs.FinMap.{nat_cmp-IsAntisymmetric}
use Rattle.std.specs.FinSet as set
use Rattle.std.proofs.lemmas.Bool.{cases_Bool}
use Rattle.std.proofs.lemmas.Cmp.{nat_cmp_total}
use Rattle.std.proofs.lemmas.List.{append-nil, map-append}
use Rattle.std.proofs.lemmas.List.Elements.{filter_map-append}
use Rattle.mc_text.proofs.StepLemmas.{None-from_is_some_false}
use Rattle.mc_tables.specs.CacheTable.{EntryValue}
use Rattle.mc_tables.specs.declared.fault.TableFaultKind.TheVariants.{RepeatedEntry}
use Rattle.mc_text.specs.Steps.{◌>>=◌}
use Rattle.mc_tables.specs.Steps.{demand}
use Rattle.mc_tables.specs.TableLines.{is_among}
use Rattle.mc_tables.specs.CacheTable.{RowValue, key_cmp, same_key, exact_entry, key_of}
use Rattle.mc_tables.specs.CacheTable.{wildcard_group, table_of}
use Rattle.mc_tables.specs.CacheReading.{entry_repeats}
use Rattle.mc_tables.specs.CacheSteps.{has_key, with_exact_entry, with_numbered_entry, with_wildcard_group}
use Rattle.mc_tables.specs.CacheSteps.{row_added}
use Rattle.mc_tables.proofs.CacheLemmas.{key_cmp-total}
use Rattle.mc_tables.proofs.CacheLookupLemmas.{is_some_find-row_keys}
use Rattle.mc_tables.proofs.CacheMapLemmas.{key_cmp-antisymmetric}

-- ---- one row

-- the map has a row's key if an earlier row has it
has_key-from_entries : (exact : Option ((ℕ × ℕ) × EntryValue)) (rows : List RowValue) →
    has_key (map.from_entries (filter_map exact_entry rows)) exact
    ≡ is_among same_key (option_map (λ e. e.0) exact) (filter_map key_of rows)
has_key-from_entries None rows = refl
has_key-from_entries (Some exact) rows =
    ap is_some (map.get-from_entries key_cmp-total (filter_map exact_entry rows) exact.0)
    ∙ is_some_find-row_keys exact.0 rows

-- the entries of the rows with one more
from_entries-push_entry : (exact : Option ((ℕ × ℕ) × EntryValue)) (es : List ((ℕ × ℕ) × EntryValue)) →
    has_key (map.from_entries es) exact ≡ false →
    map.from_entries {R = key_cmp} (es ++ cons_option exact [])
    ≡ with_exact_entry (map.from_entries es) exact
from_entries-push_entry None es new = ap (map.from_entries {R = key_cmp}) (append-nil es)
from_entries-push_entry (Some exact) es new =
    map.from_entries_push key_cmp-total key_cmp-antisymmetric es exact.0 exact.1
    (sym (map.get-from_entries key_cmp-total es exact.0)
    ∙ None-from_is_some_false (map.get (map.from_entries {R = key_cmp} es) exact.0) new)

-- the numbered entries of the rows with one more
map-push_numbered : (exact : Option ((ℕ × ℕ) × EntryValue)) (es : List ((ℕ × ℕ) × EntryValue)) →
    map_list (λ e. e.1) (es ++ cons_option exact [])
    ≡ with_numbered_entry (map_list (λ e. e.1) es) exact
map-push_numbered None es = ap (map_list (λ e. e.1)) (append-nil es)
map-push_numbered (Some exact) es = map-append (λ e. e.1) es (exact ∷ [])

-- the groups of the rows with one more
from_list-push_group : (wildcard : Option ℕ) (groups : List ℕ) →
    set.from_list {R = nat_cmp} (groups ++ cons_option wildcard [])
    ≡ with_wildcard_group (set.from_list groups) wildcard
from_list-push_group None groups = ap (set.from_list {R = nat_cmp}) (append-nil groups)
from_list-push_group (Some group) groups =
    set.from_list_push nat_cmp_total nat_cmp-IsAntisymmetric groups group

-- a table with a row that repeats no earlier one is the table of the rows with it
pub row_added-table_of : (rows : List RowValue) (row : RowValue) →
    row_added (table_of rows) row
    ≡ (demand (not (entry_repeats rows row)) RepeatedEntry >>= λ _. Ok
    (table_of (rows ++ row ∷ [])))
row_added-table_of rows row =
    let same : has_key (table_of rows).entries (exact_entry row) ≡ entry_repeats rows row =
    has_key-from_entries (exact_entry row) rows in
    elim (cases_Bool (entry_repeats rows row)) [
      | inl repeats ↦ rw (same ∙ repeats, repeats) refl
      | inr new ↦
          let entries : map.from_entries {R = key_cmp} (filter_map exact_entry (rows ++ row ∷ []))
          ≡ with_exact_entry (map.from_entries (filter_map exact_entry rows)) (exact_entry row) =
          ap (map.from_entries {R = key_cmp}) (filter_map-append exact_entry rows (row ∷ []))
          ∙ from_entries-push_entry (exact_entry row) (filter_map exact_entry rows) (same ∙ new) in
          let groups : set.from_list {R = nat_cmp} (filter_map wildcard_group (rows ++ row ∷ []))
          ≡ with_wildcard_group (set.from_list (filter_map wildcard_group rows)) (wildcard_group row) =
          ap (set.from_list {R = nat_cmp}) (filter_map-append wildcard_group rows (row ∷ []))
          ∙ from_list-push_group (wildcard_group row) (filter_map wildcard_group rows) in
          let numbered : map_list (λ e. e.1) (filter_map exact_entry (rows ++ row ∷ []))
          ≡ with_numbered_entry (map_list (λ e. e.1) (filter_map exact_entry rows)) (exact_entry row) =
          ap (map_list (λ e. e.1)) (filter_map-append exact_entry rows (row ∷ []))
          ∙ map-push_numbered (exact_entry row) (filter_map exact_entry rows) in
          rw (same ∙ new, new, entries, numbered, groups) refl
    ]
