-- Trees with one key have one line.
use Rattle.std.proofs.Common.{◌≡◌, ℕ, List, [], ◌∷◌, ◌++◌, length, map, codes, refl, sym, ap, ap₂, ◌∙◌}
use Rattle.std.proofs.Common.{arith, length-append}
use Rattle.std.proofs.lemmas.List.{length-map}
use Rattle.mc_topology.specs.Topology.{TopologyValue}
use Rattle.mc_theory.specs.Certificates.{Entry}
use Rattle.mc_theory.specs.Nets.{Net}
use Rattle.serde_json.specs.Data.{Data}
use Rattle.mc_json.specs.FlowData.{reached_data, tree_data}
use Rattle.mc_json.specs.RowData.{count_data, list_data, object_data}
use Rattle.mc_json.specs.TreeKey.{taking_entry, taking_interface, tree_key}

-- two lists with fronts of one length are equal part by part
append-parts : {A : Type 0} (xs ys us vs : List A) → length xs ≡ length ys → xs ++ us ≡ ys ++ vs
    → (xs ≡ ys) × (us ≡ vs)
append-parts [] [] us vs size same = (refl, same)
append-parts [] (y ∷ ys) us vs size same = absurd (omega (arith, size))
append-parts (x ∷ xs) [] us vs size same = absurd (omega (arith, size))
append-parts {A} (x ∷ xs) (y ∷ ys) us vs size same =
    let first : x ≡ y = cc in
    let more : xs ++ us ≡ ys ++ vs = cc in
    let rest = append-parts xs ys us vs (omega (arith, size)) more in
    (ap₂ (λ (z : A) (zs : List A). z ∷ zs) first rest.0, rest.1)

-- the LANs of a tree, by its key
map_reached_data-same_taking_entries : (t : TopologyValue) (n m : Net) (es : List Entry)
    → map (taking_entry n) es ≡ map (taking_entry m) es
    → map (reached_data t n) es ≡ map (reached_data t m) es
map_reached_data-same_taking_entries t n m [] same = refl
map_reached_data-same_taking_entries t n m (e ∷ es) same =
    let first : taking_entry n e ≡ taking_entry m e = cc in
    let more : map (taking_entry n) es ≡ map (taking_entry m) es = cc in
    let vif : taking_interface n e.forwarder ≡ taking_interface m e.forwarder =
    ap (λ (x : Entry). x.forwarder) first in
    let here : reached_data t n e ≡ reached_data t m e = rw vif refl in
    ap₂ (λ (d : Data) (ds : List Data). d ∷ ds) here (map_reached_data-same_taking_entries t n m es more)

-- trees with one key have one value
pub tree_data-same_key : (t : TopologyValue) (n m : Net) (es fs : List Entry) (tree : ℕ)
    → tree_key n es ≡ tree_key m fs → tree_data t n es tree ≡ tree_data t m fs tree
tree_data-same_key t n m es fs tree same =
    let whole = ap (λ (xs : List Entry). length xs) same in
    let size : length es ≡ length fs = omega (
      arith,
      whole,
      length-append es (map (taking_entry n) es),
      length-append fs (map (taking_entry m) fs),
      length-map es (taking_entry n),
      length-map fs (taking_entry m),
    ) in
    let parts = append-parts es fs (map (taking_entry n) es) (map (taking_entry m) fs) size same in
    let entries = map_reached_data-same_taking_entries t n m es
    (parts.1 ∙ ap (map (taking_entry m)) (sym parts.0)) ∙ ap (map (reached_data t m)) parts.0 in
    ap (λ (ds : List Data).
    object_data ((codes "entries", list_data ds) ∷ (codes "tree", count_data tree) ∷ [])) entries
