-- The look-ups of a cache find what its table has.
use Rattle.std.proofs.Common.{◌≡◌, ℕ, true, false, ltb, arith, List, [], ◌∷◌, Option, Some}
use Rattle.std.proofs.Common.{None, refl, ◌∙◌, inl, inr}
use Rattle.std.specs.Prelude.{nat_eq, is_some, if◌then◌else◌}
use Rattle.std.specs.Option.{option_map}
use Rattle.std.specs.List.{filter_map, cons_option, list_any}
use Rattle.std.specs.FinMap as map
use Rattle.std.proofs.lemmas.Bool.{cases_Bool, lt-ltb, eqb-false}
use Rattle.mc_tables.specs.CacheTable.{EntryValue, RowValue, key_cmp, same_key, exact_entry, key_of}

-- the entry, if it is of this key
abbrev entry_if_key : ℕ × ℕ → Option ((ℕ × ℕ) × EntryValue) → Option EntryValue
entry_if_key key None = None
entry_if_key key (Some exact) = if same_key key exact.0 then Some exact.1 else None

-- the entry of a row, if it is of this key
abbrev row_entry_at : ℕ × ℕ → RowValue → Option EntryValue
row_entry_at key row = entry_if_key key (exact_entry row)

-- a row that has no entry for the key is passed over
find-skip_entry : (key : ℕ × ℕ) (o : Option ((ℕ × ℕ) × EntryValue)) (rest : List ((ℕ × ℕ) × EntryValue))
    → entry_if_key key o ≡ None
    → map.find key_cmp key (cons_option o rest) ≡ map.find key_cmp key rest
find-skip_entry key None rest e = refl
find-skip_entry key (Some exact) rest e =
    elim (cases_Bool (same_key key exact.0)) [
      | inl is ↦ absurd (let wrong = rw is at e in cc)
      | inr other ↦ rw other refl
    ]

-- so only the rest of the rows is searched
find-skip_row : (key : ℕ × ℕ) (row : RowValue) (rows : List RowValue) → row_entry_at key row ≡ None
    → map.find key_cmp key (filter_map exact_entry (row ∷ rows))
    ≡ map.find key_cmp key (filter_map exact_entry rows)
find-skip_row key row rows e = find-skip_entry key (exact_entry row) (filter_map exact_entry rows) e

-- a row's key is among the keys if the rows have an entry for it
is_some_find-cons : (key : ℕ × ℕ) (o : Option ((ℕ × ℕ) × EntryValue)) (entries : List ((ℕ × ℕ) × EntryValue))
    (keys : List (ℕ × ℕ)) → is_some (map.find key_cmp key entries) ≡ list_any (same_key key) keys
    → is_some (map.find key_cmp key (cons_option o entries))
    ≡ list_any (same_key key) (cons_option (option_map (λ exact. exact.0) o) keys)
is_some_find-cons key None entries keys same = same
is_some_find-cons key (Some exact) entries keys same =
    elim (cases_Bool (same_key key exact.0)) [ inl is ↦ rw is refl | inr other ↦ rw other same ]

-- the rows have an entry for a key if it is among their keys
pub is_some_find-row_keys : (key : ℕ × ℕ) (rows : List RowValue)
    → is_some (map.find key_cmp key (filter_map exact_entry rows))
    ≡ list_any (same_key key) (filter_map key_of rows)
is_some_find-row_keys key [] = refl
is_some_find-row_keys key (row ∷ rows) =
    is_some_find-cons key (exact_entry row) (filter_map exact_entry rows) (filter_map key_of rows)
    (is_some_find-row_keys key rows)

-- ---- no entry for 0.0.0.0

-- (0, group) isn't the key of a row whose origin isn't 0
pub same_key-zero_source : (group origin other : ℕ) → nat_eq origin 0 ≡ false
    → same_key (0, group) (origin, other) ≡ false
same_key-zero_source group origin other apart =
    let positive : ltb 0 origin ≡ true =
    lt-ltb 0 origin (let h : origin ≡ 0 → ⊥ = eqb-false origin 0 apart in omega (arith, h)) in
    rw positive refl

-- an entry whose origin isn't 0 isn't one of (0, group)
entry_if_key-zero_source : (group : ℕ) (row : RowValue) → nat_eq row.origin 0 ≡ false
    → (entry : Option EntryValue)
    → entry_if_key (0, group) (option_map (λ e. ((row.origin, row.group), e)) entry) ≡ None
entry_if_key-zero_source group row other None = refl
entry_if_key-zero_source group row other (Some entry) =
    let apart : same_key (0, group) (row.origin, row.group) ≡ false =
    same_key-zero_source group row.origin row.group other in
    rw apart refl

-- a row has no entry for (0, group)
row_entry_at-zero_source : (group : ℕ) (row : RowValue) → row_entry_at (0, group) row ≡ None
row_entry_at-zero_source group row =
    elim (cases_Bool (nat_eq row.origin 0)) [
      | inl is ↦ rw is refl
      | inr other ↦ rw other (entry_if_key-zero_source group row other row.entry)
    ]

-- so rows have none
pub find-zero_source : (group : ℕ) (rows : List RowValue)
    → map.find key_cmp (0, group) (filter_map exact_entry rows) ≡ None
find-zero_source group [] = refl
find-zero_source group (row ∷ rows) =
    find-skip_row (0, group) row rows (row_entry_at-zero_source group row) ∙ find-zero_source group rows
