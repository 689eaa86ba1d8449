-- What follows from the table that a text denotes.
use Rattle.std.proofs.Common.{◌≡◌, ℕ, List, Ok, sym, subst, ◌∙◌}
use Rattle.std.specs.Prelude.{◌↔◌}
use Rattle.std.specs.Ordering.{nat_cmp}
use Rattle.std.specs.FinMap.{FinMap}
use Rattle.mc_text.specs.declared.text.addr.Order.{Order}
use Rattle.mc_tables.specs.declared.fault.TableFault.{TableFault}
use Rattle.mc_tables.specs.VifTable.{VifValue, DenotesVifs}
use Rattle.mc_tables.specs.VifLookups.{IsValidVifTable}
use Rattle.mc_tables.specs.CacheTable.{CacheValue, DenotesCache}
use Rattle.mc_tables.specs.VifReading.{vifs_in}
use Rattle.mc_tables.specs.CacheReading.{cache_in}
use Rattle.mc_text.proofs.StepLemmas.{ok_injective}
use Rattle.mc_tables.proofs.VifLemmas.{denoted_vifs-at_most_31, vifs_in-denotes, vifs_in-from_denotes}
use Rattle.mc_tables.proofs.CacheLemmas.{cache_in-denotes, cache_in-from_denotes}
use Rattle.mc_tables.proofs.TableRuleLemmas.{vif_rows-valid_table}

-- a text denotes at most one table of vifs
pub denotes_vifs-unique : (text : List ℕ) (a b : FinMap nat_cmp VifValue) → DenotesVifs text a
    → DenotesVifs text b → a ≡ b
denotes_vifs-unique text a b is_a is_b =
    ok_injective {E = TableFault} a b
    (sym (vifs_in-from_denotes text a is_a) ∙ vifs_in-from_denotes text b is_b)

-- a text denotes at most one cache
pub denotes_cache-unique : (order : Order) (text : List ℕ) (a b : CacheValue) → DenotesCache order text a
    → DenotesCache order text b → a ≡ b
denotes_cache-unique order text a b is_a is_b =
    ok_injective {E = TableFault} a b
    (sym (cache_in-from_denotes order text a is_a) ∙ cache_in-from_denotes order text b is_b)

-- a table of vifs that a text denotes is valid
pub vif_table-is_valid : (text : List ℕ) (vifs : FinMap nat_cmp VifValue) → DenotesVifs text vifs
    → IsValidVifTable vifs
vif_table-is_valid text vifs denotes =
    subst IsValidVifTable (sym denotes.as_map)
    (vif_rows-valid_table denotes.rows denotes.lines.devices_differ
    (denoted_vifs-at_most_31 denotes.lines.lines denotes.rows denotes.lines.denoted))

-- a text is read as vifs exactly if it denotes them
pub vifs_in-iff_denotes : (text : List ℕ) (vifs : FinMap nat_cmp VifValue) → (vifs_in text ≡ Ok vifs)
    ↔ DenotesVifs text vifs
vifs_in-iff_denotes text vifs = (vifs_in-denotes text vifs, vifs_in-from_denotes text vifs)

-- a text is read as a cache exactly if it denotes it
pub cache_in-iff_denotes : (order : Order) (text : List ℕ) (table : CacheValue)
    → (cache_in order text ≡ Ok table) ↔ DenotesCache order text table
cache_in-iff_denotes order text table =
    (cache_in-denotes order text table, cache_in-from_denotes order text table)
