-- A cache read with the sources and groups of its own rows listed: all rows are kept.
use Rattle.std.proofs.Common.{◌≡◌, ℕ, suc, true, cond, List, [], ◌∷◌}
use Rattle.std.proofs.Common.{map, filter, Option, Some, None, Result, Ok, Err, refl, sym, ap, subst}
use Rattle.std.proofs.Common.{◌∙◌, arith}
use Rattle.std.specs.Prelude.{◌==◌, ◌&&◌, ◌↔◌, Contains}
use Rattle.std.specs.List.{filter_map, cons_option}
use Rattle.std.proofs.lemmas.Bool.Decides.{nat_tests}
use Rattle.std.proofs.lemmas.List.{get_or-map, length-map}
use Rattle.std.proofs.lemmas.List.Folds.{list_any_at}
use Rattle.mc_text.specs.declared.text.addr.Order.{Order}
use Rattle.mc_text.specs.Steps.{◌>>=◌}
use Rattle.mc_tables.specs.declared.fault.TableFault.{TableFault}
use Rattle.mc_tables.specs.CacheTable.{RowValue, key_of, table_of}
use Rattle.mc_tables.specs.CacheReading.{cache_rows_in, cache_in}
use Rattle.mc_tables.specs.ListedRows.{is_listed, is_kept_key, kept_rows, listed_in}
use Rattle.mc_tables.specs.Summary.{group_first, in_order, unlisted_keys}
use Rattle.mc_tables.proofs.LowestLemmas.{contains-in_order}

-- a test that all pass leaves a list as it is
filter-always : {X : Type 0} (xs : List X) → filter (λ x. true) xs ≡ xs
filter-always [] = refl
filter-always (x ∷ xs) = ap (λ ys. x ∷ ys) (filter-always xs)

-- what a list contains, its image contains the image of
contains-image : {X Y : Type 0} (f : X → Y) (xs : List X) (x : X) → Contains xs x → Contains (map f xs) (f x)
contains-image f xs x (k, within, is) =
    (k, omega (arith, within, length-map xs f), get_or-map f xs k x (f x) within ∙ ap f is)

-- a pair in the list is listed
is_listed-contained : (listed : List (ℕ × ℕ)) (key : ℕ × ℕ) → Contains listed key
    → is_listed (Some listed) key ≡ true
is_listed-contained listed key (k, within, is) =
    list_any_at (λ p. (p.0 == key.0) && (p.1 == key.1)) listed k key within
    (rw is (grind (arith, nat_tests)))

-- if the key of each row is listed, all rows are kept
kept_rows-all : (listed : List (ℕ × ℕ)) (rows : List RowValue)
    → ((key : ℕ × ℕ) → Contains (filter_map key_of rows) key → Contains listed key)
    → kept_rows (Some listed) rows ≡ rows
kept_rows-all listed [] there = refl
kept_rows-all listed (row ∷ rows) there = by (key_of row) there (kept_rows-all listed rows)
  where
    by : (own : Option (ℕ × ℕ))
        → ((key : ℕ × ℕ) → Contains (cons_option own (filter_map key_of rows)) key → Contains listed key)
        → (((key : ℕ × ℕ) → Contains (filter_map key_of rows) key → Contains listed key)
        → kept_rows (Some listed) rows ≡ rows)
        → cond (is_kept_key (Some listed) own) (row ∷ kept_rows (Some listed) rows)
        (kept_rows (Some listed) rows) ≡ row ∷ rows
    by None there rest = ap (λ (rs : List RowValue). row ∷ rs) (rest there)
    by (Some key) there rest =
        rw (is_listed-contained listed key (there key (0, omega arith, refl)))
        (ap (λ (rs : List RowValue). row ∷ rs) (rest (λ k later.
        there k (suc later.0, omega (arith, later.1), later.2))))

-- so it is if those are listed that a summary of all rows has, whose pairs begin with the group
pub kept_rows-own_pairs : (rows : List RowValue) (lowest pairs listed : List (ℕ × ℕ))
    → lowest ≡ in_order (map group_first (unlisted_keys [] rows)) → pairs ≡ map group_first lowest
    → ((pair : ℕ × ℕ) → Contains listed pair ↔ Contains pairs pair) → kept_rows (Some listed) rows ≡ rows
kept_rows-own_pairs rows lowest pairs listed own swapped same =
    let keys = filter_map key_of rows in
    kept_rows-all listed rows (λ key there.
    let unlisted : Contains (unlisted_keys [] rows) key =
    subst (λ (ks : List (ℕ × ℕ)). Contains ks key) (sym (filter-always keys)) there in
    let shown = contains-in_order (group_first key) (map group_first (unlisted_keys [] rows))
    (contains-image group_first (unlisted_keys [] rows) key unlisted) in
    let back = contains-image group_first lowest (group_first key)
    (subst (λ (ps : List (ℕ × ℕ)). Contains ps (group_first key)) (sym own) shown) in
    (same key).1 (subst (λ (ps : List (ℕ × ℕ)). Contains ps key) (sym swapped) back))

-- if all rows of a text are kept, its table is that of the text
pub listed_in-all_kept : (order : Order) (listed : List (ℕ × ℕ)) (text : List ℕ)
    → ((rows : List RowValue) → cache_rows_in order text ≡ Ok rows → kept_rows (Some listed) rows ≡ rows)
    → listed_in order (Some listed) text ≡ cache_in order text
listed_in-all_kept order listed text kept = by (cache_rows_in order text) refl
  where
    by : (read : Result (List RowValue) TableFault) → cache_rows_in order text ≡ read
        → (read >>= λ rows. Ok (table_of (kept_rows (Some listed) rows)))
        ≡ (read >>= λ rows. Ok (table_of rows))
    by (Ok rows) is = ap (λ (rs : List RowValue). Ok (table_of rs)) (kept rows is)
    by (Err fault) is = refl
