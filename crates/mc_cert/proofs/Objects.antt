-- The values in an object and in a list of JSON's reader.
use Rattle.std.proofs.Common.{◌≡◌, ℕ, List, [], ◌∷◌, map, refl, ap, ◌∙◌, String, Global}
use Rattle.std.proofs.Common.{string_bytes, Bor, Option, option_map}
use Rattle.std.specs.Map.{keys_of, lookup}
use Rattle.std.specs.BTreeMap.{is_at}
use Rattle.std.specs.Ordering.{nat_cmp}
use Rattle.std.specs.Cmp.Lexicographic.{slice_cmp}
use Rattle.serde_json.specs.declared.value.Value.{Value}
use Rattle.serde_json.specs.Find.{get_member}
use Rattle.serde_json.specs.View.{view, items_view, members_view}
use Rattle.serde_json.proofs.Views.{view_of_ref, view-lookup}
use Rattle.mc_cert.specs.Object.{keys_in, rows_in}

-- the values of a list, each as its data
pub rows_in-view : (values : List Value) → rows_in (items_view values) ≡ map view values
rows_in-view [] = refl
rows_in-view (v ∷ values) = ap (λ (ds : List _). view v ∷ ds) (rows_in-view values)

-- the keys of an object, each as its bytes
pub keys_in-view : (es : List (String Global × Value))
    → map string_bytes (keys_of es) ≡ keys_in (members_view es)
keys_in-view [] = refl
keys_in-view (e ∷ es) = ap (λ (ks : List _). string_bytes e.0 ∷ ks) (keys_in-view es)

-- the value that an object's map has for a key
pub get_member-object : (r : Option (Bor Value)) (k : List ℕ) (es : List (String Global × Value))
    → option_map (λ x. x.now) r ≡ lookup (is_at (λ x. slice_cmp nat_cmp k (string_bytes x))) es
    → option_map (λ x. view x.now) r ≡ get_member k (members_view es)
get_member-object r k es found = view_of_ref r ∙ ap (option_map view) found ∙ view-lookup k es
