-- The rows that a domain keeps are those of its caches.
use Rattle.std.proofs.Common.{◌≡◌, ℕ, zero, suc, ◌+◌, ◌<◌, List, [], ◌∷◌, ◌++◌, map, length, take}
use Rattle.std.proofs.Common.{get_or, slice_get, Some, refl, sym, ap, subst, ◌∙◌, arith}
use Rattle.std.specs.List.{AllByRecursion}
use Rattle.std.proofs.lemmas.Option.{get_or_from_slice_get, slice_get_read}
use Rattle.mc_tables.specs.CacheTable.{CacheValue, EntryValue, IsValidEntry, to_oif}
use Rattle.mc_tables.specs.declared.cache.entry.Oif.{Oif}
use Rattle.mc_topology.specs.Topology.{TopologyValue}
use Rattle.mc_topology.specs.declared.flow.Flow.{Flow}
use Rattle.mc_theory.specs.Nets.{Row}
use Rattle.mc_theory.specs.Nets.Row.{NoRow}
use Rattle.mc_forward.specs.declared.row.RowFor.{RowFor}
use Rattle.mc_forward.specs.declared.row.RowFor.TheVariants as row
use Rattle.mc_forward.specs.Domains.{DomainValue, AreRows, IsDomain, IsValidRow, oif_pairs, row_in_cache}
use Rattle.mc_forward.specs.Domains.{row_of}
use Rattle.mc_forward.specs.RouterTables.{HaveRows}
use Rattle.mc_forward.specs.RowValues.{row_value, HasValidEntry}
use Rattle.mc_forward.proofs.BelowLemmas.{map-push}
use Rattle.mc_forward.proofs.DomainLemmas.{is_valid_row-row_of}
use Rattle.mc_forward.proofs.IndexLemmas.{take-one_more}

-- one row more
pub map_take-one_row_more : (cache : CacheValue) (flows : List Flow) (i : ℕ) (f : Flow) (r : Row)
    → slice_get flows i ≡ Some f → r ≡ row_in_cache cache f
    → map (row_in_cache cache) (take i flows) ++ r ∷ [] ≡ map (row_in_cache cache) (take (i + 1) flows)
map_take-one_row_more cache flows i f r at same =
    ap (λ (o : Row). map (row_in_cache cache) (take i flows) ++ o ∷ []) same
    ∙ sym (map-push (row_in_cache cache) (take i flows) f)
    ∙ ap (map (row_in_cache cache)) (sym (take-one_more flows i f at))

-- ---- the rows of a domain

-- the rows of a router, read by its number
pub rows_of_router-at_index : (d : DomainValue) (own : List Row) (router : ℕ) → IsDomain d
    → router < length d.topology.routers → own ≡ get_or d.rows router own
    → slice_get d.rows router ≡ Some own
rows_of_router-at_index d own router ok within read =
    slice_get_read d.rows (length d.rows) router own refl (omega (arith, within, ok.rows.routers)) read

-- the row of a flow among them
pub row_of-rows_of_router : (d : DomainValue) (router flow : ℕ) (own : List Row) (r : Row)
    → slice_get d.rows router ≡ Some own → slice_get own flow ≡ Some r → r ≡ row_of d flow router
row_of-rows_of_router d router flow own r rows row =
    sym (ap (λ (rs : List Row). get_or rs flow NoRow) (get_or_from_slice_get d.rows router own [] rows)
    ∙ get_or_from_slice_get own flow r NoRow row)

-- ---- the entry of a row is one that a kernel may have

-- outgoing vifs are got back from their pairs
map_to_oif-oif_pairs : (oifs : List Oif) → map to_oif (oif_pairs oifs) ≡ oifs
map_to_oif-oif_pairs [] = refl
map_to_oif-oif_pairs (o ∷ oifs) = ap (λ (os : List Oif). o ∷ os) (map_to_oif-oif_pairs oifs)

-- an entry with this incoming vif and these outgoing ones
abbrev entry_with : ℕ → List Oif → EntryValue
entry_with iif oifs = record { iif = iif; oifs = oifs }

-- a row is valid if its entry is
pub is_valid_row-row_value : (r : RowFor) → HasValidEntry r → IsValidRow (row_value r)
is_valid_row-row_value row.Open ok = tt
is_valid_row-row_value row.NoRow ok = tt
is_valid_row-row_value (row.Exact entry) ok =
    subst (λ (oifs : List Oif). IsValidEntry (entry_with entry.iif oifs))
    (sym (map_to_oif-oif_pairs entry.oifs)) ok

-- and only then
has_valid_entry-row_value : (r : RowFor) → IsValidRow (row_value r) → HasValidEntry r
has_valid_entry-row_value row.Open ok = tt
has_valid_entry-row_value row.NoRow ok = tt
has_valid_entry-row_value (row.Exact entry) ok =
    subst (λ (oifs : List Oif). IsValidEntry (entry_with entry.iif oifs))
    (map_to_oif-oif_pairs entry.oifs) ok

-- so it is for a row of a domain
pub has_valid_entry-from_row_value : (d : DomainValue) (flow router : ℕ) (r : RowFor) → IsDomain d
    → row_value r ≡ row_of d flow router → HasValidEntry r
has_valid_entry-from_row_value d flow router r ok same =
    has_valid_entry-row_value r (subst IsValidRow (sym same) (is_valid_row-row_of d flow router ok))

-- ---- loops

-- the images under the identity
pub map-same : {A : Type 0} (xs : List A) → map (λ x. x) xs ≡ xs
map-same [] = refl
map-same (x ∷ xs) = let rest = map-same xs in cc

-- what holds of all holds of all and one more
pub all-push : {A : Type 0} (P : A → Type 0) (xs : List A) (x : A) → AllByRecursion P xs → P x
    → AllByRecursion P (xs ++ x ∷ [])
all-push P [] x all one = (one, tt)
all-push P (y ∷ xs) x all one = (all.0, all-push P xs x all.1 one)

-- and it holds of each
pub all-at_index : {A : Type 0} (P : A → Type 0) (xs : List A) (k : ℕ) (x : A) → AllByRecursion P xs
    → slice_get xs k ≡ Some x → P x
all-at_index P [] k x all at = absurd cc
all-at_index P (y ∷ xs) zero x all at = let same : y ≡ x = cc in subst P same all.0
all-at_index P (y ∷ xs) (suc k) x all at = all-at_index P xs k x all.1 at

-- rows of as many routers, each with a row for each flow, are those of a topology
pub are_rows-from_each : (t : TopologyValue) (rows : List (List Row)) → length rows ≡ length t.routers
    → AllByRecursion (HaveRows (length t.flows)) rows → AreRows t rows
are_rows-from_each t rows size all = record {
  routers = size;
  flows = λ router own at. (all-at_index (HaveRows (length t.flows)) rows router own all at).count;
  valid = λ router own at. (all-at_index (HaveRows (length t.flows)) rows router own all at).valid;
}
