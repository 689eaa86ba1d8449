-- Of tables whose caches have the rows of the listed flows alone the same is kept as of the whole ones.
use Rattle.std.proofs.Common.{◌≡◌, ℕ, zero, suc, Bool, true, List, [], ◌∷◌, ◌++◌, map, length}
use Rattle.std.proofs.Common.{slice_get, Some, refl, ap, ap₂, sym, subst, arith, ◌∙◌, ◌||◌}
use Rattle.std.proofs.lemmas.Bool.{eq-eqb}
use Rattle.mc_tables.specs.ListedRows.{is_listed}
use Rattle.mc_topology.specs.declared.flow.Flow.{Flow}
use Rattle.mc_theory.specs.Nets.{Row}
use Rattle.mc_forward.specs.Domains.{TablesValue, VifsValue, row_in_cache}
use Rattle.mc_forward.specs.Assembling.{RelatedAtEachIndex, rows_by_tables, vifs_by_tables}
use Rattle.mc_forward.specs.ListedTables.{IsListedPartOfTables, Pairwise, flow_pairs}
use Rattle.mc_forward.specs.RouterTables.{RouterTablesValue, kept_of_tables, router_tables_with}
use Rattle.mc_forward.specs.RouterTables.{with_router}
use Rattle.mc_forward.proofs.BelowLemmas.{map-push}

-- one of two is true if the second is
or-true : (b : Bool) → (b || true) ≡ true
or-true b = grind arith

-- a listed flow's source and group are listed
is_listed-of_flow : (flows : List Flow) (k : ℕ) (f : Flow) → slice_get flows k ≡ Some f
    → is_listed (Some (flow_pairs flows)) (f.source, f.group) ≡ true
is_listed-of_flow [] k f e = absurd cc
is_listed-of_flow (g ∷ flows) zero f e =
    let same : g ≡ f = cc in
    rw (same, eq-eqb f.source f.source refl, eq-eqb f.group f.group refl) refl
is_listed-of_flow (g ∷ flows) (suc k) f e = rw (is_listed-of_flow flows k f e) (or-true _)

-- so a router has for it what the whole table has
row_in_cache-of_listed_part : (flows : List Flow) (part whole : TablesValue)
    → IsListedPartOfTables flows part whole → (k : ℕ) (f : Flow) → slice_get flows k ≡ Some f
    → row_in_cache part.cache f ≡ row_in_cache whole.cache f
row_in_cache-of_listed_part flows part whole listed k f at =
    rw (listed.cache.entries (f.source, f.group) (is_listed-of_flow flows k f at), listed.cache.wildcards)
    refl

-- images are the same if they are at each place
map-equal_at_each_index : {A B : Type 0} (xs : List A) (f g : A → B)
    → ((k : ℕ) (x : A) → slice_get xs k ≡ Some x → f x ≡ g x) → map f xs ≡ map g xs
map-equal_at_each_index [] f g each = refl
map-equal_at_each_index (x ∷ xs) f g each =
    let first = each 0 x refl in
    let rest = map-equal_at_each_index xs f g (λ k y at. each (suc k) y at) in cc

-- so the same is kept of it as of the whole, behind what is kept of others
pub with_router-of_listed_part : (flows : List Flow) (kept : RouterTablesValue) (wholes : List TablesValue)
    (part whole : TablesValue) → kept ≡ kept_of_tables flows wholes → IsListedPartOfTables flows part whole
    → with_router flows kept part ≡ kept_of_tables flows (wholes ++ whole ∷ [])
with_router-of_listed_part flows kept wholes part whole same listed =
    let rows : map (row_in_cache part.cache) flows ≡ map (row_in_cache whole.cache) flows =
    map-equal_at_each_index flows (row_in_cache part.cache) (row_in_cache whole.cache)
    (λ k f at. row_in_cache-of_listed_part flows part whole listed k f at) in
    ap (λ (k : RouterTablesValue). with_router flows k part) same
    ∙ ap₂ (λ (vifs : VifsValue) (own : List Row). router_tables_with (length flows)
    (vifs_by_tables wholes ++ vifs ∷ []) (rows_by_tables flows wholes ++ own ∷ [])) listed.vifs rows
    ∙ ap₂ (router_tables_with (length flows))
    (sym (map-push (λ (t : TablesValue). t.vifs) wholes whole))
    (sym (map-push (λ (t : TablesValue). map (row_in_cache t.cache) flows) wholes whole))

-- ---- item by item

module _ {A B : Type 0} (R : A → B → Type 0) where
  -- one more on both sides
  pub pairwise-more : (xs : List A) (ys : List B) (x : A) (y : B) → Pairwise R xs ys → R x y
      → Pairwise R (xs ++ x ∷ []) (ys ++ y ∷ [])
  pairwise-more [] [] x y are one = (one, tt)
  pairwise-more [] (z ∷ ys) x y are one = absurd are
  pairwise-more (z ∷ xs) [] x y are one = absurd are
  pairwise-more (z ∷ xs) (w ∷ ys) x y are one = (are.0, pairwise-more xs ys x y are.1 one)

  -- both have as many items
  pub pairwise-count : (xs : List A) (ys : List B) → Pairwise R xs ys → length xs ≡ length ys
  pairwise-count [] [] are = refl
  pairwise-count [] (y ∷ ys) are = absurd are
  pairwise-count (x ∷ xs) [] are = absurd are
  pairwise-count (x ∷ xs) (y ∷ ys) are = ap suc (pairwise-count xs ys are.1)

  -- those at the same place are related
  pub pairwise-each : (xs : List A) (ys : List B) → Pairwise R xs ys → RelatedAtEachIndex R xs ys
  pairwise-each [] [] are k x y at here = absurd cc
  pairwise-each [] (w ∷ ys) are k x y at here = absurd are
  pairwise-each (z ∷ xs) [] are k x y at here = absurd are
  pairwise-each (z ∷ xs) (w ∷ ys) are zero x y at here =
      let first : z ≡ x = cc in
      let second : w ≡ y = cc in
      subst (λ (a : A). R a y) first (subst (λ (b : B). R z b) second are.0)
  pairwise-each (z ∷ xs) (w ∷ ys) are (suc k) x y at here = pairwise-each xs ys are.1 k x y at here
