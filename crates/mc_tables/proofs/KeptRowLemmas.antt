-- The rows of a cache that are kept, and the others.
use Rattle.std.proofs.Common.{◌≡◌, ℕ, Bool, true, false, cond, List, [], ◌∷◌}
use Rattle.std.proofs.Common.{Option, Some, None, refl, sym, ap, ◌∙◌, inl, inr}
use Rattle.std.specs.Prelude.{not, filter}
use Rattle.std.specs.List.{filter_map, cons_option, list_any}
use Rattle.std.specs.Option.{option_map}
use Rattle.std.proofs.lemmas.Bool.{cases_Bool}
use Rattle.mc_tables.specs.CacheTable.{EntryValue, RowValue, same_key, key_of}
use Rattle.mc_tables.specs.TableLines.{is_among}
use Rattle.mc_tables.specs.ListedRows.{Listed, is_listed, is_kept_key, is_kept, kept_rows}
use Rattle.mc_tables.proofs.UnlistedRowLemmas.{same_key-equal}

-- ---- keys

-- no test is equal to its opposite
not-differs : (b : Bool) → b ≡ not b → ⊥
not-differs true e = cc
not-differs false e = cc

-- of two keys of which only one is listed, neither is the other
pub same_key-listed_differs : (listed : Listed) (x y : ℕ × ℕ) (b : Bool) → is_listed listed x ≡ b
    → is_listed listed y ≡ not b → same_key x y ≡ false
same_key-listed_differs listed x y b of_x of_y =
    elim (cases_Bool (same_key x y)) [
      | inr other ↦ other
      | inl same ↦
          let one = ap (is_listed listed) (same_key-equal x y same) in
          let wrong : b ≡ not b = sym of_x ∙ one ∙ of_y in
          absurd (not-differs b wrong)
    ]

-- ---- the rows that are kept, and the others

-- the keys of the rows that aren't kept
abbrev pub unlisted_row_keys : Listed → List RowValue → List (ℕ × ℕ)
unlisted_row_keys listed rows = filter_map key_of (filter (λ row. not (is_kept listed row)) rows)

-- whether a listed key is among the keys of the rows with one more
any_key-kept_more : (listed : Listed) (key : ℕ × ℕ) (row : RowValue) (kept rows : List RowValue)
    (own : Option (ℕ × ℕ)) → key_of row ≡ own → is_listed listed key ≡ true
    → list_any (same_key key) (filter_map key_of kept)
    ≡ list_any (same_key key) (filter_map key_of rows)
    → list_any (same_key key) (filter_map key_of (cond (is_kept_key listed own) (row ∷ kept) kept))
    ≡ list_any (same_key key) (cons_option own (filter_map key_of rows))
any_key-kept_more listed key row kept rows None own is rest = rw own rest
any_key-kept_more listed key row kept rows (Some other) own is rest =
    elim (cases_Bool (is_listed listed other)) [
      | inl has ↦ rw (has, own, rest) refl
      | inr none ↦ rw (none, same_key-listed_differs listed key other true is none) rest
    ]

-- a listed key is among the keys of the rows exactly if it is among those of the kept rows
any_key-kept_rows : (listed : Listed) (key : ℕ × ℕ) (rows : List RowValue) → is_listed listed key ≡ true
    → list_any (same_key key) (filter_map key_of (kept_rows listed rows))
    ≡ list_any (same_key key) (filter_map key_of rows)
any_key-kept_rows listed key [] is = refl
any_key-kept_rows listed key (row ∷ rows) is =
    any_key-kept_more listed key row (kept_rows listed rows) rows (key_of row) refl is
    (any_key-kept_rows listed key rows is)

-- whether another key is among the keys of the rows with one more
any_key-unlisted_more : (listed : Listed) (key : ℕ × ℕ) (row : RowValue) (others rows : List RowValue)
    (own : Option (ℕ × ℕ)) → key_of row ≡ own → is_listed listed key ≡ false
    → list_any (same_key key) (filter_map key_of others)
    ≡ list_any (same_key key) (filter_map key_of rows)
    → list_any (same_key key)
    (filter_map key_of (cond (not (is_kept_key listed own)) (row ∷ others) others))
    ≡ list_any (same_key key) (cons_option own (filter_map key_of rows))
any_key-unlisted_more listed key row others rows None own is rest = rest
any_key-unlisted_more listed key row others rows (Some other) own is rest =
    elim (cases_Bool (is_listed listed other)) [
      | inl has ↦ rw (has, same_key-listed_differs listed key other false is has) rest
      | inr none ↦ rw (none, own, rest) refl
    ]

-- a key that isn't listed is among the keys of the rows exactly if it is among those of the others
pub any_key-unlisted_rows : (listed : Listed) (key : ℕ × ℕ) (rows : List RowValue)
    → is_listed listed key ≡ false
    → list_any (same_key key) (unlisted_row_keys listed rows)
    ≡ list_any (same_key key) (filter_map key_of rows)
any_key-unlisted_rows listed key [] is = refl
any_key-unlisted_rows listed key (row ∷ rows) is =
    any_key-unlisted_more listed key row (filter (λ r. not (is_kept listed r)) rows) rows (key_of row) refl is
    (any_key-unlisted_rows listed key rows is)

-- a kept row repeats an earlier row exactly if it repeats a kept one
pub is_among-kept_rows : (listed : Listed) (rows : List RowValue) (own : Option (ℕ × ℕ))
    → is_kept_key listed own ≡ true
    → is_among same_key own (filter_map key_of (kept_rows listed rows))
    ≡ is_among same_key own (filter_map key_of rows)
is_among-kept_rows listed rows None is = refl
is_among-kept_rows listed rows (Some key) is = any_key-kept_rows listed key rows is

-- a row that isn't kept has a key
pub key_of-unlisted_row : (listed : Listed) (row : RowValue) (b : Bool) (entry : Option EntryValue)
    → is_kept_key listed (option_map (λ (exact : (ℕ × ℕ) × EntryValue). exact.0)
    (cond b None (option_map (λ e. ((row.origin, row.group), e)) entry))) ≡ false
    → (option_map (λ (exact : (ℕ × ℕ) × EntryValue). exact.0)
    (cond b None (option_map (λ e. ((row.origin, row.group), e)) entry))
    ≡ Some (row.origin, row.group)) × (is_listed listed (row.origin, row.group) ≡ false)
key_of-unlisted_row listed row true entry e = absurd cc
key_of-unlisted_row listed row false None e = absurd cc
key_of-unlisted_row listed row false (Some entry) e = (refl, e)
