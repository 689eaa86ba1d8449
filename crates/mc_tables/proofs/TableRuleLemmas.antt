-- The rules of tables, whatever text they were read from.
use Rattle.std.proofs.Common.{◌≡◌, ◌≢◌, ◌≤◌, ℕ, false, List, Option, Some, sym, subst, ◌∙◌}
use Rattle.std.specs.Prelude.{IfSome, ◌↔◌}
use Rattle.std.specs.List.{IsDistinct, AllByRecursion, filter_map}
use Rattle.std.specs.Ordering.{nat_cmp}
use Rattle.std.specs.Str.{bytes_eq}
use Rattle.std.specs.FinMap.{FinMap, from_entries, get-from_entries}
use Rattle.std.proofs.lemmas.Slice.Eq.{bytes_eq-Decides}
use Rattle.mc_text.specs.declared.text.addr.Order.{Order}
use Rattle.std.proofs.lemmas.Option.{same_Some}
use Rattle.mc_tables.specs.CacheTable.{EntryValue}
use Rattle.mc_tables.specs.VifTable.{VifValue, no_device, device_of}
use Rattle.mc_tables.specs.VifLookups.{HasDevice, IsValidVifTable}
use Rattle.mc_tables.specs.CacheTable.{RowValue, CacheValue, IsValidEntry, IsValidCache, DenotesCache}
use Rattle.mc_tables.specs.CacheTable.{exact_entry, table_of}
use Rattle.mc_tables.proofs.VifLookupLemmas.{first_index_with-has_device, get-at_most_31, absurd-both_values}
use Rattle.mc_tables.proofs.CacheLemmas.{key_cmp-total}
use Rattle.mc_tables.proofs.CacheLookupLemmas.{find-zero_source}
use Rattle.mc_tables.proofs.EntryLemmas.{HaveValidEntries, rows-have_valid_entries, find-valid_entry}

-- rows whose indexes are 0 to 31 and whose devices differ make a valid table of vifs
pub vif_rows-valid_table : (rows : List (ℕ × VifValue)) → IsDistinct bytes_eq (filter_map device_of rows) →
    AllByRecursion (λ row. row.0 ≤ 31) rows → IsValidVifTable (from_entries rows)
vif_rows-valid_table rows distinct all = record {
  numbered = λ index there. get-at_most_31 rows index all there;
  devices_differ = λ device i j some has_i has_j.
      same_Some i j (sym (first_index_with-has_device device rows i some distinct has_i)
      ∙ first_index_with-has_device device rows j some distinct has_j);
}

-- rows with valid entries make a valid cache
pub cache_rows-valid_table : (rows : List RowValue) → HaveValidEntries rows → IsValidCache (table_of rows)
cache_rows-valid_table rows valid =
    let at = λ (key : ℕ × ℕ). sym (get-from_entries key_cmp-total (filter_map exact_entry rows) key) in
    record {
      entries = λ key. subst (λ (o : Option EntryValue). IfSome o IsValidEntry) (at key)
          (find-valid_entry key rows valid);
      sources = λ group. sym (at (0, group)) ∙ find-zero_source group rows;
    }

-- an index is found for a device other than `none` exactly if it has the device
pub answer-iff_has_device : (vifs : FinMap nat_cmp VifValue) (device : List ℕ) (answer : Option ℕ) →
    bytes_eq device no_device ≡ false → IfSome answer (λ index. HasDevice vifs index device) →
    ((index : ℕ) → device ≢ no_device → HasDevice vifs index device → answer ≡ Some index) →
    (index : ℕ) → (answer ≡ Some index) ↔ ((device ≢ no_device) × HasDevice vifs index device)
answer-iff_has_device vifs device answer some found only index =
    let named : device ≢ no_device = λ unnamed.
    absurd-both_values (bytes_eq device no_device) some ((bytes_eq-Decides device no_device).1 unnamed) in (
      λ is. (named, subst (λ (a : Option ℕ). IfSome a (λ i. HasDevice vifs i device)) is found),
      λ both. only index both.0 both.1,
    )

-- a table that a text denotes is valid
pub cache-is_valid : (order : Order) (text : List ℕ) (table : CacheValue) → DenotesCache order text table
    → IsValidCache table
cache-is_valid order text table denotes =
    subst IsValidCache (sym denotes.as_table)
    (cache_rows-valid_table denotes.rows
    (rows-have_valid_entries order denotes.lines.lines denotes.rows denotes.lines.denoted))
