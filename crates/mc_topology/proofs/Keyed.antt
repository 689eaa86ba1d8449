-- Rows that a map keeps by their keys: a look-up by key finds what a search of the rows finds, and a
-- row with a new key is added last.
use Rattle.std.proofs.Common.{◌≡◌, ℕ, Bool, true, false, List, [], ◌∷◌, ◌++◌, map}
use Rattle.std.proofs.Common.{option_map, is_some, refl, sym, ap, ◌∙◌}
use Rattle.std.specs.Prelude.{◌==◌, find, position}
use Rattle.std.specs.Bool.{Decides}
use Rattle.std.specs.Cmp.{unsigned_Decides}
use Rattle.std.specs.List.{list_any, position_or_len}
use Rattle.std.specs.Map.{lookup, keys_of}
use Rattle.std.specs.Str.{bytes_eq}
use Rattle.std.proofs.lemmas.Bool.Decides.{same_from_decides}
use Rattle.std.proofs.lemmas.List.{map-append, length-map}
use Rattle.std.proofs.lemmas.Map.Entries.{length-keys_of}
use Rattle.std.proofs.lemmas.Slice.Eq.{bytes_eq-Decides}
use Rattle.mc_text.proofs.StepLemmas.{None-from_is_some_false}
use Rattle.indexmap.specs.IndexMap.{IndexMap, insert_entry}
use Rattle.indexmap.specs.IndexSet.{insert_key}
use Rattle.indexmap.proofs.CallerLemmas.{insert_entry-new}

-- ---- tests

-- two tests of equivalent facts have the same result
test_eq-from_iff : {P Q : Type 0} (r s : Bool) → Decides r P → Decides s Q → (P → Q) → (Q → P) → r ≡ s
test_eq-from_iff r s decides_p decides_q to from =
    same_from_decides r s decides_p (λ e. from (decides_q.0 e), λ p. decides_q.1 (to p))

-- a test of two texts or of two numbers is symmetric
pub bytes_eq-flip : (a b : List ℕ) → bytes_eq a b ≡ bytes_eq b a
bytes_eq-flip a b =
    test_eq-from_iff (bytes_eq a b) (bytes_eq b a) (bytes_eq-Decides a b) (bytes_eq-Decides b a)
    (λ e. sym e) (λ e. sym e)

-- and whichever number
pub nat_eq-flip : (a b : ℕ) → (a == b) ≡ (b == a)
nat_eq-flip a b =
    test_eq-from_iff (a == b) (b == a) (unsigned_Decides a b) (unsigned_Decides b a) (λ e. sym e)
    (λ e. sym e)

-- ---- keys alone

module _ {K R : Type 0} (row : K → R) (test : K → Bool) (same : R → Bool)
    (agree : (k : K) → test k ≡ same (row k)) where
  -- a key passes exactly if a row does
  pub list_any-map_row : (ks : List K) → list_any test ks ≡ list_any same (map row ks)
  list_any-map_row [] = refl
  list_any-map_row (k ∷ ks) = rw (agree k, list_any-map_row ks) refl

  -- as many keys fail before the first that passes as rows do
  position_or_len-map_row : (ks : List K) → position_or_len test ks ≡ position_or_len same (map row ks)
  position_or_len-map_row [] = refl
  position_or_len-map_row (k ∷ ks) = rw (agree k, position_or_len-map_row ks) refl

  -- the first key that passes has the place of the first row that does
  pub position-map_row : (ks : List K) → position test ks ≡ position same (map row ks)
  position-map_row ks = rw (position_or_len-map_row ks, length-map ks row) refl

-- a new key is added last
pub rows-insert_new_key : {K R : Type 0} (row : K → R) (eq : K → K → Bool) (same : R → Bool) (ks : List K)
    (k : K) → ((j : K) → eq k j ≡ same (row j))
    → list_any same (map row ks) ≡ false → map row (insert_key eq ks k) ≡ map row ks ++ row k ∷ []
rows-insert_new_key row eq same ks k agree new =
    let none = list_any-map_row row (eq k) same agree ks ∙ new in
    rw none (map-append row ks (k ∷ []))

-- ---- keys with their values

module _ {K V R : Type 0} (row : K × V → R) (test : K → Bool) (same : R → Bool)
    (agree : (e : K × V) → test e.0 ≡ same (row e)) where
  -- the first entry whose key passes is that of the first row that does
  lookup-first : (value : R → V) (e : K × V) (es : List (K × V)) (b : Bool) → same (row e) ≡ b
      → value (row e) ≡ e.1 → lookup test es ≡ option_map value (find same (map row es))
      → lookup test (e ∷ es) ≡ option_map value (find same (map row (e ∷ es)))
  lookup-first value e es true is of later = rw (agree e, is, of) refl
  lookup-first value e es false is of later = rw (agree e, is) later

  -- the value of the first key that passes is that of the first row that does
  pub lookup-find_row : (value : R → V) → ((e : K × V) → value (row e) ≡ e.1) → (es : List (K × V))
      → lookup test es ≡ option_map value (find same (map row es))
  lookup-find_row value of [] = refl
  lookup-find_row value of (e ∷ es) =
      lookup-first value e es (same (row e)) refl (of e) (lookup-find_row value of es)

  -- a key passes exactly if a row does
  is_some_lookup-first : (e : K × V) (es : List (K × V)) (b : Bool) → same (row e) ≡ b
      → is_some (lookup test es) ≡ list_any same (map row es)
      → is_some (lookup test (e ∷ es)) ≡ list_any same (map row (e ∷ es))
  is_some_lookup-first e es true is later = rw (agree e, is) refl
  is_some_lookup-first e es false is later = rw (agree e, is) later

  -- and so for all entries
  pub is_some_lookup-any_row : (es : List (K × V)) → is_some (lookup test es) ≡ list_any same (map row es)
  is_some_lookup-any_row [] = refl
  is_some_lookup-any_row (e ∷ es) = is_some_lookup-first e es (same (row e)) refl (is_some_lookup-any_row es)

  -- as many keys fail before the first that passes as rows do
  position_or_len-keys_of : (es : List (K × V))
      → position_or_len test (keys_of es) ≡ position_or_len same (map row es)
  position_or_len-keys_of [] = refl
  position_or_len-keys_of (e ∷ es) = rw (agree e, position_or_len-keys_of es) refl

  -- the first key that passes has the place of the first row that does
  pub position-keys_of : (es : List (K × V)) → position test (keys_of es) ≡ position same (map row es)
  position-keys_of es = rw (position_or_len-keys_of es, length-keys_of es, length-map es row) refl

-- an entry with a new key is added last
pub rows-insert_new_entry : {K V R S : Type 0} (row : K × V → R) (eq : K → K → Bool) (same : R → Bool)
    (m : IndexMap K V S) (k : K) (v : V) → ((e : K × V) → eq k e.0 ≡ same (row e))
    → list_any same (map row m.entries) ≡ false
    → map row (insert_entry eq m.entries k v) ≡ map row m.entries ++ row (k, v) ∷ []
rows-insert_new_entry row eq same m k v agree new =
    let none = None-from_is_some_false (lookup (eq k) m.entries)
    (is_some_lookup-any_row row (eq k) same agree m.entries ∙ new) in
    ap (map row) (insert_entry-new eq m k v none) ∙ map-append row m.entries ((k, v) ∷ [])
