-- The row at a place, from the key and the value at that place.
use Rattle.std.proofs.Common.{◌≡◌, ℕ, zero, suc, ◌<◌, List, [], ◌∷◌, length, get_or, map}
use Rattle.std.proofs.Common.{Some, option_map, refl, sym, ap, arith}
use Rattle.std.specs.Prelude.{String, string_bytes, slice_get}
use Rattle.std.specs.Map.{keys_of, values_of}
use Rattle.mc_text.specs.declared.text.addr.Order.{Order}
use Rattle.mc_topology.specs.SectionRows.{RouterRow, router_row}

-- the name of a router is its key's text
pub slice_get-router_name : {A : Type 0} (es : List (String A × Order)) (i : ℕ) (k : String A) → i < length es
    → k ≡ get_or (keys_of es) i k
    → option_map (λ (r : RouterRow). r.name) (slice_get (map router_row es) i)
    ≡ Some (string_bytes k)
slice_get-router_name [] i k within is = absurd (omega arith)
slice_get-router_name (e ∷ es) zero k within is = ap (λ (x : String _). Some (string_bytes x)) (sym is)
slice_get-router_name (e ∷ es) (suc i) k within is = slice_get-router_name es i k (omega (arith, within)) is

-- the order of a router is its key's value
pub slice_get-router_order : {A : Type 0} (es : List (String A × Order)) (i : ℕ) (order : Order)
    → slice_get (values_of es) i ≡ Some order
    → option_map (λ (r : RouterRow). r.order) (slice_get (map router_row es) i) ≡ Some order
slice_get-router_order [] i order at = absurd cc
slice_get-router_order (e ∷ es) zero order at = at
slice_get-router_order (e ∷ es) (suc i) order at = slice_get-router_order es i order at

-- a row that is made of a key and its value
pub slice_get-row : {K V R : Type 0} (row : K × V → R) (es : List (K × V)) (i : ℕ) (k : K) (v : V)
    → i < length es
    → k ≡ get_or (keys_of es) i k → slice_get (values_of es) i ≡ Some v
    → slice_get (map row es) i ≡ Some (row (k, v))
slice_get-row row [] i k v within is at = absurd cc
slice_get-row row (e ∷ es) zero k v within is at =
    let value : e.1 ≡ v = cc in
    rw (is, ← value) refl
slice_get-row row (e ∷ es) (suc i) k v within is at = slice_get-row row es i k v (omega (arith, within)) is at
