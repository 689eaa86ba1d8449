-- Networks from tables keep what every domain keeps.
use Rattle.std.proofs.Common.{◌≡◌, ℕ, ◌<◌, Bool, true, false, cond, ◌&&◌, ◌==◌, nat_lt, List, []}
use Rattle.std.proofs.Common.{◌∷◌, map, Some, refl, subst, eqb-true, ltb-true}
use Rattle.std.specs.Bool.{⊤}
use Rattle.std.proofs.lemmas.Bool.{and_parts}
use Rattle.mc_theory.specs.Lists.{Distinct}
use Rattle.mc_theory.specs.Nets.{IsNet, Row}
use Rattle.mc_theory.specs.Nets.Row.{Exact, Open, NoRow}
use Rattle.mc_theory.specs.ExampleNetworks.{Placement, placed_by_table, row_by_table, network}

-- all places are at routers below k, and at vifs that a kernel has
abbrev pub are_placements_bounded : ℕ → List Placement → Bool
are_placements_bounded k [] = true
are_placements_bounded k (p ∷ ps) = nat_lt p.0 k && (nat_lt p.1 32 && are_placements_bounded k ps)

placed_by_table_step : (k : ℕ) (p : Placement) (ps : List Placement) (r v l : ℕ) (b : Bool) →
    ((p.0 == r) && (p.1 == v)) ≡ b → are_placements_bounded k (p ∷ ps) ≡ true →
    cond b (Some p.2) (placed_by_table ps r v) ≡ Some l →
    (are_placements_bounded k ps ≡ true → placed_by_table ps r v ≡ Some l → (r < k) × (v < 32)) →
    (r < k) × (v < 32)
placed_by_table_step k p ps r v l true e low h ih =
    let at = and_parts (p.0 == r) (p.1 == v) e in
    let both = and_parts (nat_lt p.0 k) (nat_lt p.1 32 && are_placements_bounded k ps) low in
    let rest = and_parts (nat_lt p.1 32) (are_placements_bounded k ps) both.1 in (
      subst (λ x. x < k) (eqb-true p.0 r at.0) (ltb-true p.0 k both.0),
      subst (λ x. x < 32) (eqb-true p.1 v at.1) (ltb-true p.1 32 rest.0),
    )
placed_by_table_step k p ps r v l false e low h ih =
    let both = and_parts (nat_lt p.0 k) (nat_lt p.1 32 && are_placements_bounded k ps) low in
    ih (and_parts (nat_lt p.1 32) (are_placements_bounded k ps) both.1).1 h

placed_by_table-bounded : (k : ℕ) (ps : List Placement) (r v l : ℕ) → are_placements_bounded k ps ≡ true →
    placed_by_table ps r v ≡ Some l → (r < k) × (v < 32)
placed_by_table-bounded k [] r v l low h = absurd cc
placed_by_table-bounded k (p ∷ ps) r v l low h =
    placed_by_table_step k p ps r v l ((p.0 == r) && (p.1 == v)) refl low h
    (placed_by_table-bounded k ps r v l)

-- a row has one pair at most for each outgoing vif
abbrev pub HasDistinctVifs : Row → Type 0
HasDistinctVifs (Exact incoming pairs) = Distinct (map (λ p. p.0) pairs)
HasDistinctVifs Open = ⊤
HasDistinctVifs NoRow = ⊤

abbrev pub HaveDistinctVifs : List (ℕ × Row) → Type 0
HaveDistinctVifs [] = ⊤
HaveDistinctVifs (t ∷ ts) = HasDistinctVifs t.1 × HaveDistinctVifs ts

row_by_table_step : (t : ℕ × Row) (ts : List (ℕ × Row)) (r : ℕ) (b : Bool) → HasDistinctVifs t.1 →
    HasDistinctVifs (row_by_table ts r) → HasDistinctVifs (cond b t.1 (row_by_table ts r))
row_by_table_step t ts r true h k = h
row_by_table_step t ts r false h k = k

row_by_table-distinct_vifs : (ts : List (ℕ × Row)) (r : ℕ) → HaveDistinctVifs ts →
    HasDistinctVifs (row_by_table ts r)
row_by_table-distinct_vifs [] r h = tt
row_by_table-distinct_vifs (t ∷ ts) r h =
    row_by_table_step t ts r (t.0 == r) h.0 (row_by_table-distinct_vifs ts r h.1)

pub network-is_net : (k : ℕ) (places : List Placement) (rows : List (ℕ × Row)) (wants : ℕ → Bool) (ttl : ℕ) →
    are_placements_bounded k places ≡ true → HaveDistinctVifs rows → IsNet (network k places rows wants ttl)
network-is_net k places rows wants ttl low apart = record {
  router = λ r v l h. (placed_by_table-bounded k places r v l low h).0;
  vif = λ r v l h. (placed_by_table-bounded k places r v l low h).1;
  vifs = λ r v pairs h. subst HasDistinctVifs h (row_by_table-distinct_vifs rows r apart);
}
