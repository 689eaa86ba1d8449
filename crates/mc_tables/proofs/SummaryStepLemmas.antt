-- The summary of a cache's rows, row by row.
use Rattle.std.proofs.Common.{◌≡◌, ℕ, ◌+◌, ◌≤◌, Bool, true, false, cond, List, [], ◌∷◌, length}
use Rattle.std.proofs.Common.{Option, Some, refl, sym, ap, ◌∙◌, arith, inl, inr}
use Rattle.std.specs.Prelude.{◌&&◌, ◌||◌, not, is_some, map as map_list}
use Rattle.std.specs.FinMap as map
use Rattle.std.specs.FinSet as set
use Rattle.std.specs.List.{list_any}
use Rattle.std.proofs.lemmas.Bool.{cases_Bool}
use Rattle.std.proofs.lemmas.List.{length_push}
use Rattle.mc_tables.specs.declared.listed.listed_entry_numbers.Inserted.{Inserted}
use Rattle.mc_tables.specs.declared.listed.listed_entry_numbers.Inserted.TheVariants.{New, Repeated, Unlisted}
use Rattle.mc_tables.specs.CacheTable.{EntryValue, key_cmp, same_key}
use Rattle.mc_tables.specs.CacheNumbers.{IsNumberInserted, KeptRowsValue, EntryNumbersValue, AddsNumber}
use Rattle.mc_tables.specs.CacheNumbers.{number_of_key}
use Rattle.mc_tables.specs.ListedRows.{set_has_key}
use Rattle.mc_tables.specs.SummarySoFar.{with_first_entry, IsEntryInserted, with_entry_if_new}
use Rattle.mc_tables.proofs.CacheLemmas.{same_key-equivalence, key_cmp-total}
use Rattle.mc_tables.proofs.CacheMapLemmas.{key_cmp-antisymmetric}
use Rattle.mc_tables.proofs.UnlistedRowLemmas.{same_key-equal}

-- ---- the first entry of a key

-- whether an entry is added, by whether its key can have one and has none
with_entry_if_new-cases : (key : ℕ × ℕ) (entry : EntryValue) (old : KeptRowsValue) (listed there : Bool)
    → set_has_key old.listed key ≡ listed → is_some (map.get old.table.entries key) ≡ there
    → cond (listed && not there) (with_first_entry old key entry) old ≡ with_entry_if_new old key entry
with_entry_if_new-cases key entry old listed there is_listed is_there =
    ap (λ b. cond (b && not there) (with_first_entry old key entry) old) (sym is_listed)
    ∙ ap (λ b. cond (set_has_key old.listed key && not b) (with_first_entry old key entry) old) (sym is_there)

-- the rows after an entry was added, or was not
pub entry_inserted-value : (key : ℕ × ℕ) (entry : EntryValue) (old new : KeptRowsValue) (is : Inserted)
    → IsEntryInserted key entry old new is → new ≡ with_entry_if_new old key entry
entry_inserted-value key entry old new New e = e.2 ∙ with_entry_if_new-cases key entry old true false e.0 e.1
entry_inserted-value key entry old new Repeated e =
    e.2 ∙ with_entry_if_new-cases key entry old true true e.0 e.1
entry_inserted-value key entry old new Unlisted e =
    e.1 ∙ with_entry_if_new-cases key entry old false (is_some (map.get old.table.entries key)) e.0 refl

-- there is at most one more
pub entry_inserted-room : (key : ℕ × ℕ) (entry : EntryValue) (old new : KeptRowsValue) (is : Inserted)
    → IsEntryInserted key entry old new is
    → length new.table.numbered ≤ length old.table.numbered + 1
entry_inserted-room key entry old new New e =
    rw e.2 (omega (arith, length_push old.table.numbered entry))
entry_inserted-room key entry old new Repeated e = rw e.2 (omega arith)
entry_inserted-room key entry old new Unlisted e = rw e.1 (omega arith)

-- ---- the keys of unresolved rows

-- the keys that have a number
abbrev pub numbered_keys : List ((ℕ × ℕ) × ℕ) → set.FinSet key_cmp
numbered_keys numbers = set.from_list (map_list (λ p. p.0) numbers)

-- a key is among them if it has a number
list_any-numbered_keys : (numbers : List ((ℕ × ℕ) × ℕ)) (key : ℕ × ℕ)
    → list_any (same_key key) (map_list (λ (p : (ℕ × ℕ) × ℕ). p.0) numbers)
    ≡ is_some (number_of_key numbers key)
list_any-numbered_keys [] key = refl
list_any-numbered_keys (p ∷ numbers) key =
    elim (same_key key p.0) as (λ b.
    (b || list_any (same_key key) (map_list (λ (p : (ℕ × ℕ) × ℕ). p.0) numbers))
    ≡ is_some (cond b (Some p.1) (number_of_key numbers key))) [
      | true ↦ refl
      | false ↦ list_any-numbered_keys numbers key
    ]

pub contains-numbered_keys : (numbers : List ((ℕ × ℕ) × ℕ)) (key : ℕ × ℕ)
    → set.contains (numbered_keys numbers) key ≡ is_some (number_of_key numbers key)
contains-numbered_keys numbers key =
    set.contains-from_list key_cmp-total (map_list (λ (p : (ℕ × ℕ) × ℕ). p.0) numbers) key
    ∙ list_any-numbered_keys numbers key

-- the numbers with one more, if there is one
is_some-cond : (b : Bool) (n : ℕ) (o : Option ℕ) → is_some (cond b (Some n) o) ≡ (b || is_some o)
is_some-cond true n o = refl
is_some-cond false n o = refl

-- the keys with one more that has a number now
numbered_keys-push : (key : ℕ × ℕ) (n : ℕ) (numbers more : List ((ℕ × ℕ) × ℕ))
    → AddsNumber key n numbers more
    → numbered_keys more ≡ set.insert (numbered_keys numbers) key
numbered_keys-push key n numbers more grown =
    set.same_set key_cmp-total key_cmp-antisymmetric _ _ (λ q.
    contains-numbered_keys more q ∙ ap is_some (grown q)
    ∙ is_some-cond (same_key key q) n (number_of_key numbers q)
    ∙ ap (λ b. b || is_some (number_of_key numbers q)) (same_key-equivalence.symm key q)
    ∙ ap (λ b. same_key q key || b) (sym (contains-numbered_keys numbers q))
    ∙ sym (set.contains-insert key_cmp-total (numbered_keys numbers) key q))

-- the keys with one that had a number already
numbered_keys-repeated : (key : ℕ × ℕ) (numbers : List ((ℕ × ℕ) × ℕ))
    → is_some (number_of_key numbers key) ≡ true
    → numbered_keys numbers ≡ set.insert (numbered_keys numbers) key
numbered_keys-repeated key numbers there =
    set.same_set key_cmp-total key_cmp-antisymmetric _ _ (λ q.
    elim (cases_Bool (same_key q key)) [
      | inl same ↦
          ap (set.contains (numbered_keys numbers)) (same_key-equal q key same)
          ∙ contains-numbered_keys numbers key ∙ there
          ∙ sym (ap (λ b. b || set.contains (numbered_keys numbers) q) same)
      | inr other ↦ sym (ap (λ b. b || set.contains (numbered_keys numbers) q) other)
    ]
    ∙ sym (set.contains-insert key_cmp-total (numbered_keys numbers) key q))

-- one more unresolved row, if its key is listed
pub numbered_keys-inserted : (key : ℕ × ℕ) (n : ℕ) (old new : EntryNumbersValue) (is : Inserted)
    → IsNumberInserted key n old new is
    → numbered_keys new.numbers
    ≡ cond (set_has_key old.listed key) (set.insert (numbered_keys old.numbers) key)
    (numbered_keys old.numbers)
numbered_keys-inserted key n old new New e =
    numbered_keys-push key n old.numbers new.numbers e.3
    ∙ sym (ap (λ b. cond b (set.insert (numbered_keys old.numbers) key) (numbered_keys old.numbers))
    e.0)
numbered_keys-inserted key n old new Repeated e =
    ap (λ (keys : EntryNumbersValue). numbered_keys keys.numbers) e.2
    ∙ numbered_keys-repeated key old.numbers e.1
    ∙ sym (ap (λ b. cond b (set.insert (numbered_keys old.numbers) key) (numbered_keys old.numbers))
    e.0)
numbered_keys-inserted key n old new Unlisted e =
    ap (λ (keys : EntryNumbersValue). numbered_keys keys.numbers) e.1
    ∙ sym (ap (λ b. cond b (set.insert (numbered_keys old.numbers) key) (numbered_keys old.numbers))
    e.0)

-- the same keys are listed then
pub number_inserted-same_listed : (key : ℕ × ℕ) (n : ℕ) (old new : EntryNumbersValue) (is : Inserted)
    → IsNumberInserted key n old new is → new.listed ≡ old.listed
number_inserted-same_listed key n old new New e = e.2
number_inserted-same_listed key n old new Repeated e = ap (λ (keys : EntryNumbersValue). keys.listed) e.2
number_inserted-same_listed key n old new Unlisted e = ap (λ (keys : EntryNumbersValue). keys.listed) e.1
