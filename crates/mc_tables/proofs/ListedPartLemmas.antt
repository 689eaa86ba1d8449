-- The table of the listed rows beside the one of all rows.
use Rattle.std.proofs.Common.{◌≡◌, ℕ, Bool, true, false, cond, eqb, List, [], ◌∷◌, Option, Some, None}
use Rattle.std.proofs.Common.{Result, Ok, Err, refl, ap, subst, ◌∙◌, sym, inl, inr}
use Rattle.std.specs.Prelude.{◌↔◌}
use Rattle.std.specs.List.{filter_map, cons_option}
use Rattle.std.specs.Option.{option_map}
use Rattle.std.specs.Ordering.{nat_cmp}
use Rattle.std.specs.FinMap as map
use Rattle.std.specs.FinSet as set
use Rattle.std.proofs.lemmas.Bool.{cases_Bool}
use Rattle.mc_text.specs.declared.text.addr.Order.{Order}
use Rattle.mc_tables.specs.CacheTable.{EntryValue, RowValue, CacheValue, key_cmp, exact_entry}
use Rattle.mc_tables.specs.declared.fault.TableFault.{TableFault}
use Rattle.mc_text.specs.Steps.{◌>>=◌}
use Rattle.mc_tables.specs.CacheTable.{wildcard_group, table_of}
use Rattle.mc_tables.specs.CacheReading.{cache_rows_in, cache_in}
use Rattle.mc_tables.specs.ListedRows.{Listed, is_listed, is_kept_key, is_kept, kept_rows, listed_in}
use Rattle.mc_tables.specs.ListedRows.{IsListedPart}
use Rattle.mc_text.proofs.StepLemmas.{bind_ok, ok_injective}
use Rattle.mc_tables.proofs.CacheLemmas.{key_cmp-total}
use Rattle.mc_tables.proofs.KeptRowLemmas.{same_key-listed_differs}

-- ---- entries

-- whether a listed key is found among the entries of the rows with one more
find-kept_more : (listed : Listed) (key : ℕ × ℕ) (row : RowValue) (kept rows : List RowValue)
    (own : Option ((ℕ × ℕ) × EntryValue)) → exact_entry row ≡ own → is_listed listed key ≡ true
    → map.find key_cmp key (filter_map exact_entry kept)
    ≡ map.find key_cmp key (filter_map exact_entry rows)
    → map.find key_cmp key (filter_map exact_entry
    (cond (is_kept_key listed (option_map (λ (e : (ℕ × ℕ) × EntryValue). e.0) own)) (row ∷ kept) kept))
    ≡ map.find key_cmp key (cons_option own (filter_map exact_entry rows))
find-kept_more listed key row kept rows None own is rest = rw own rest
find-kept_more listed key row kept rows (Some exact) own is rest =
    elim (cases_Bool (is_listed listed exact.0)) [
      | inl has ↦ rw (has, own, rest) refl
      | inr none ↦ rw (none, same_key-listed_differs listed key exact.0 true is none) rest
    ]

-- a listed key has the same entry among the kept rows and among all
find-kept_rows : (listed : Listed) (key : ℕ × ℕ) (rows : List RowValue) → is_listed listed key ≡ true
    → map.find key_cmp key (filter_map exact_entry (kept_rows listed rows))
    ≡ map.find key_cmp key (filter_map exact_entry rows)
find-kept_rows listed key [] is = refl
find-kept_rows listed key (row ∷ rows) is =
    find-kept_more listed key row (kept_rows listed rows) rows (exact_entry row) refl is
    (find-kept_rows listed key rows is)

-- whether another key is found among the entries of the rows with one more
find-unlisted_more : (listed : Listed) (key : ℕ × ℕ) (row : RowValue) (kept : List RowValue)
    (own : Option ((ℕ × ℕ) × EntryValue)) → exact_entry row ≡ own → is_listed listed key ≡ false
    → map.find key_cmp key (filter_map exact_entry kept) ≡ None
    → map.find key_cmp key (filter_map exact_entry
    (cond (is_kept_key listed (option_map (λ (e : (ℕ × ℕ) × EntryValue). e.0) own)) (row ∷ kept) kept))
    ≡ None
find-unlisted_more listed key row kept None own is rest = rw own rest
find-unlisted_more listed key row kept (Some exact) own is rest =
    elim (cases_Bool (is_listed listed exact.0)) [
      | inl has ↦ rw (has, own, same_key-listed_differs listed key exact.0 false is has) rest
      | inr none ↦ rw none rest
    ]

-- a key that isn't listed has no entry among the kept rows
find-unlisted : (listed : Listed) (key : ℕ × ℕ) (rows : List RowValue) → is_listed listed key ≡ false
    → map.find key_cmp key (filter_map exact_entry (kept_rows listed rows)) ≡ None
find-unlisted listed key [] is = refl
find-unlisted listed key (row ∷ rows) is =
    find-unlisted_more listed key row (kept_rows listed rows) (exact_entry row) refl is
    (find-unlisted listed key rows is)

-- ---- rows for every source

-- a row that isn't kept is for one source
wildcard_group-unlisted_row : (listed : Listed) (row : RowValue) (b : Bool) (entry : Option EntryValue)
    → is_kept_key listed (option_map (λ (exact : (ℕ × ℕ) × EntryValue). exact.0)
    (cond b None (option_map (λ e. ((row.origin, row.group), e)) entry))) ≡ false
    → cond b (option_map (λ _. row.group) entry) None ≡ None
wildcard_group-unlisted_row listed row true entry e = absurd cc
wildcard_group-unlisted_row listed row false entry e = refl

-- so the kept rows have all groups of the rows for every source
wildcard_groups-kept_rows : (listed : Listed) (rows : List RowValue)
    → filter_map wildcard_group (kept_rows listed rows) ≡ filter_map wildcard_group rows
wildcard_groups-kept_rows listed [] = refl
wildcard_groups-kept_rows listed (row ∷ rows) =
    elim (cases_Bool (is_kept listed row)) [
      | inl kept ↦ rw kept (ap (cons_option (wildcard_group row)) (wildcard_groups-kept_rows listed rows))
      | inr other ↦
          let none : wildcard_group row ≡ None =
          wildcard_group-unlisted_row listed row (eqb row.origin 0) row.entry other in
          rw (other, none) (wildcard_groups-kept_rows listed rows)
    ]

-- ---- tables

-- the table of the kept rows is the listed part of the table of all rows
table_of-listed_part : (listed : Listed) (rows : List RowValue)
    → IsListedPart listed (table_of (kept_rows listed rows)) (table_of rows)
table_of-listed_part listed rows = record {
  entries = λ key is.
      map.get-from_entries key_cmp-total (filter_map exact_entry (kept_rows listed rows)) key
      ∙ find-kept_rows listed key rows is
      ∙ sym (map.get-from_entries key_cmp-total (filter_map exact_entry rows) key);
  others = λ key is.
      map.get-from_entries key_cmp-total (filter_map exact_entry (kept_rows listed rows)) key
      ∙ find-unlisted listed key rows is;
  wildcards = ap (set.from_list {R = nat_cmp}) (wildcard_groups-kept_rows listed rows);
}

-- a text of which the listed rows are read is read whole, and they are the listed part of it
pub listed_in-is_part : (order : Order) (listed : Listed) (text : List ℕ) (part : CacheValue)
    → listed_in order listed text ≡ Ok part
    → (whole : CacheValue) × (cache_in order text ≡ Ok whole) × IsListedPart listed part whole
listed_in-is_part order listed text part e =
    let read = bind_ok (cache_rows_in order text) (λ rows. Ok (table_of (kept_rows listed rows)))
    part e in (
      table_of read.0,
      ap (λ r. r >>= λ rows. Ok (table_of rows)) read.1,
      subst (λ (p : CacheValue). IsListedPart listed p (table_of read.0))
          (ok_injective {E = TableFault} (table_of (kept_rows listed read.0)) part read.2)
          (table_of-listed_part listed read.0),
    )

-- the faults are those of the whole text
table_of-same_fault : (listed : Listed) (read : Result (List RowValue) TableFault) (fault : TableFault)
    → ((read >>= λ rows. Ok (table_of (kept_rows listed rows))) ≡ Err fault)
    ↔ ((read >>= λ rows. Ok (table_of rows)) ≡ Err fault)
table_of-same_fault listed (Ok rows) fault = (λ e. absurd cc, λ e. absurd cc)
table_of-same_fault listed (Err other) fault = (λ e. e, λ e. e)

pub listed_in-same_fault : (order : Order) (listed : Listed) (text : List ℕ) (fault : TableFault)
    → (listed_in order listed text ≡ Err fault) ↔ (cache_in order text ≡ Err fault)
listed_in-same_fault order listed text fault = table_of-same_fault listed (cache_rows_in order text) fault
