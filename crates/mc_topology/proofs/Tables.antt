-- The values in a table and in a list of TOML's reader.
use Rattle.std.proofs.Common.{◌≡◌, ℕ, List, [], ◌∷◌, map, refl, ap, String, Global, string_bytes}
use Rattle.std.proofs.Common.{Bor}
use Rattle.std.specs.List.{list_all, list_any}
use Rattle.std.specs.Map.{keys_of}
use Rattle.std.specs.Str.{bytes_eq}
use Rattle.mc_text.proofs.Lists.{list_any-now}
use Rattle.toml.specs.declared.value.Value.{Value}
use Rattle.toml.specs.View.{view, items_view, members_view}
use Rattle.mc_topology.specs.Document.{are_known, keys_in, rows_in}

-- the values of a list, each as its data
pub rows_in-view : (values : List Value) → rows_in (items_view values) ≡ map view values
rows_in-view [] = refl
rows_in-view (v ∷ values) = ap (λ (ds : List _). view v ∷ ds) (rows_in-view values)

-- the test of whether each key is known, with the known keys behind references
pub are_known-now : (known : List (Bor (List ℕ))) (keys : List (String Global))
    → list_all (λ key. list_any (λ k. bytes_eq k.now (string_bytes key)) known) keys
    ≡ are_known (map (λ k. k.now) known) (map string_bytes keys)
are_known-now known [] = refl
are_known-now known (key ∷ keys) =
    rw (list_any-now (λ k. bytes_eq k (string_bytes key)) known, are_known-now known keys) refl

-- the keys of a table, each as its bytes
pub keys_in-view : (es : List (String Global × Value))
    → map string_bytes (keys_of es) ≡ keys_in (members_view es)
keys_in-view [] = refl
keys_in-view (e ∷ es) = ap (λ (ks : List _). string_bytes e.0 ∷ ks) (keys_in-view es)
