-- Which parts belong to a domain: those with the names of its slots.
use Rattle.std.proofs.Common.{◌≡◌, ℕ, ◌+◌, Bool, true, List, []}
use Rattle.std.proofs.Common.{◌∷◌, Option, Some, None, refl, arith}
use Rattle.std.specs.Prelude.{if◌then◌else◌, option_map}
use Rattle.std.specs.Str.{bytes_eq}
use Rattle.std.proofs.lemmas.Slice.Eq.{bytes_eq-Decides}
use Rattle.mc_files.specs.PartMismatch.{first_mismatch}

-- ---- lists without a mismatch are equal

-- by whether the first names are equal
first_mismatch-None_more : (b : Bool) (o : Option ℕ)
    → (if b then option_map (λ n. n + 1) o else Some 0) ≡ None
    → (b ≡ true) × (o ≡ None)
first_mismatch-None_more b o e = grind (arith, e)

-- names without a mismatch are the same
pub same_names-from_first_mismatch : (names others : List (List ℕ)) → first_mismatch names others ≡ None
    → names ≡ others
same_names-from_first_mismatch [] [] e = refl
same_names-from_first_mismatch [] (other ∷ others) e = absurd cc
same_names-from_first_mismatch (name ∷ names) [] e = absurd cc
same_names-from_first_mismatch (name ∷ names) (other ∷ others) e =
    let here = first_mismatch-None_more (bytes_eq other name) (first_mismatch names others) e in
    let first : other ≡ name = (bytes_eq-Decides other name).0 here.0 in
    let rest = same_names-from_first_mismatch names others here.1 in
    cc

-- and the same names have none
pub first_mismatch-same_names : (names : List (List ℕ)) → first_mismatch names names ≡ None
first_mismatch-same_names [] = refl
first_mismatch-same_names (name ∷ names) =
    rw ((bytes_eq-Decides name name).1 refl, first_mismatch-same_names names) refl
