-- How a cache's entries are stored: in a list, with the number there of each key that has one. A
-- key is a source and a group.
use Rattle.std.specs.Prelude.{◌≡◌, ◌≢◌, ℕ, zero, suc, ◌<◌, true, false, cond, List, [], ◌∷◌, ◌++◌, length}
use Rattle.std.specs.Prelude.{Option, Some, None, IfSome, is_some, get_or, slice_get}
use Rattle.std.specs.Option.{option_map}
use Rattle.std.specs.List.{filter_map, list_any}
use Rattle.std.specs.BTreeMap.{is_at}
use Rattle.std.specs.Map.{lookup}
use Rattle.mc_tables.specs.CacheTable.{EntryValue, CacheValue, key_cmp, same_key}
use Rattle.mc_tables.specs.declared.cache.entry.Oif.{Oif}
use Rattle.mc_tables.specs.declared.listed.listed_entry_numbers.Inserted.{Inserted}
use Rattle.mc_tables.specs.declared.listed.listed_entry_numbers.Inserted.TheVariants.{New, Repeated, Unlisted}
use Rattle.mc_tables.specs.declared.listed.listed_entry_numbers.Vacancy.{Vacancy}
use Rattle.mc_tables.specs.declared.listed.listed_entry_numbers.Vacancy.TheVariants as vacancy
use Rattle.mc_tables.specs.ListedRows.{ListedSet, set_has_key}

-- a key with its number, as the key with the entry of that number
abbrev pub numbered_entry : List EntryValue → (ℕ × ℕ) × ℕ → Option ((ℕ × ℕ) × EntryValue)
numbered_entry entries numbered = option_map (λ entry. (numbered.0, entry)) (slice_get entries numbered.1)

-- the keys that have a number, each with its entry
abbrev pub entries_by_key : List ((ℕ × ℕ) × ℕ) → List EntryValue → List ((ℕ × ℕ) × EntryValue)
entries_by_key numbers entries = filter_map (numbered_entry entries) numbers

-- the number of a key, if it has one
abbrev pub number_of_key : List ((ℕ × ℕ) × ℕ) → ℕ × ℕ → Option ℕ
number_of_key numbers key = lookup (is_at (key_cmp key)) numbers

-- each key's number is that of an entry
abbrev pub AreEntryNumbers : List ((ℕ × ℕ) × ℕ) → List EntryValue → Type 0
AreEntryNumbers numbers entries =
    (key : ℕ × ℕ) → IfSome (number_of_key numbers key) (λ number. number < length entries)

-- ---- numbers of listed keys

-- which keys can have a number, and the numbers of those that have one
pub record EntryNumbersValue : Type 0 where
  pub listed : ListedSet
  pub numbers : List ((ℕ × ℕ) × ℕ)

-- The numbers that are stored at the places of the keys: each as one more than itself, and 0 for a
-- key that has none. A key past the end of what is stored has none.
abbrev pub numbers_at_places : List (ℕ × ℕ) → List ℕ → List ((ℕ × ℕ) × ℕ)
numbers_at_places (key ∷ keys) (zero ∷ stored) = numbers_at_places keys stored
numbers_at_places (key ∷ keys) (suc number ∷ stored) = (key, number) ∷ numbers_at_places keys stored
numbers_at_places _ _ = []

-- the number that is stored at a key's place, if it isn't 0
abbrev pub decoded_number : ℕ → Option ℕ
decoded_number zero = None
decoded_number (suc number) = Some number

-- the key is at this place among the keys
abbrev pub IsPlaceOf : List (ℕ × ℕ) → ℕ × ℕ → ℕ → Type 0
IsPlaceOf keys key place = (place < length keys) × (get_or keys place key ≡ key)

-- `more` has the numbers, and that of one more key
abbrev pub AddsNumber : (key : ℕ × ℕ) (number : ℕ) (numbers more : List ((ℕ × ℕ) × ℕ)) → Type 0
AddsNumber key number numbers more =
    (other : ℕ × ℕ) →
    number_of_key more other ≡ cond (is_at (key_cmp key) other) (Some number) (number_of_key numbers other)

-- What the answer says of the insertion of a key's number: `New`, the listed key had none and has
-- it now; `Repeated`, it had one already; `Unlisted`, the key isn't listed. But for the first
-- nothing changes.
abbrev pub IsNumberInserted : (key : ℕ × ℕ) (number : ℕ) (old new : EntryNumbersValue) → Inserted → Type 0
IsNumberInserted key number old new New =
    (set_has_key old.listed key ≡ true) × (number_of_key old.numbers key ≡ None) × (new.listed ≡ old.listed)
    × AddsNumber key number old.numbers new.numbers
IsNumberInserted key number old new Repeated =
    (set_has_key old.listed key ≡ true) × (is_some (number_of_key old.numbers key) ≡ true) × (new ≡ old)
IsNumberInserted key number old new Unlisted = (set_has_key old.listed key ≡ false) × (new ≡ old)

-- Only contracts of private functions use this definition and the next one. What the answer says of
-- where a key's number may be stored: `At place`, at the key's place, which has none; `Repeated`,
-- its place has one; `Unlisted`, the key isn't listed.
abbrev pub IsVacancyFor : (keys : List (ℕ × ℕ)) (stored : List ℕ) (key : ℕ × ℕ) → Vacancy → Type 0
IsVacancyFor keys stored key (vacancy.At place) =
    IsPlaceOf keys key place × (place < length stored) × (get_or stored place 0 ≡ 0)
IsVacancyFor keys stored key vacancy.Repeated =
    (place : ℕ) × IsPlaceOf keys key place × (get_or stored place 0 ≢ 0)
IsVacancyFor keys stored key vacancy.Unlisted = list_any (same_key key) keys ≡ false

-- the lists with one more, if a new number is inserted
abbrev pub lists_with_new : List (ℕ × List Oif) → ℕ × List Oif → Inserted → List (ℕ × List Oif)
lists_with_new lists more New = lists ++ more ∷ []
lists_with_new lists more _ = lists

-- ---- the rows that are kept

-- the table of the rows that are kept, which keys are listed, and the groups of the (*,G) rows in
-- the order in which they are stored
pub record KeptRowsValue : Type 0 where
  pub table : CacheValue
  pub listed : ListedSet
  pub groups : List ℕ
