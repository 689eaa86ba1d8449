-- What is named for a LAN or a router can be the name of a part of a bundle.
use Rattle.std.proofs.Common.{◌≡◌, ℕ, ◌≤◌, true, not, List, [], ◌∷◌, ◌++◌}
use Rattle.std.proofs.Common.{length, refl, arith, length-append}
use Rattle.std.specs.Prelude.{◌==◌}
use Rattle.std.specs.List.{list_all}
use Rattle.std.proofs.lemmas.Bool.{and_parts, leb-true}
use Rattle.std.proofs.lemmas.List.Folds.{list_all-append}
use Rattle.std.proofs.lemmas.List.Sums.{AllPass-from_list_all}
use Rattle.mc_text.specs.Names.{is_part_byte}
use Rattle.mc_bundle.specs.Bundle.{IsPartName}
use Rattle.mc_topology.specs.Names.{is_name, is_name_byte}

-- a byte of a name is a byte of a part's name
is_part_byte-from_is_name_byte : (b : ℕ) → is_name_byte b ≡ true → is_part_byte b ≡ true
is_part_byte-from_is_name_byte b e = (and_parts (is_part_byte b) (not (b == 47)) e).0

-- and so are those of a whole name
list_all-is_part_byte : (name : List ℕ) → list_all is_name_byte name ≡ true
    → list_all is_part_byte name ≡ true
list_all-is_part_byte [] e = refl
list_all-is_part_byte (b ∷ bs) e =
    let both = and_parts (is_name_byte b) (list_all is_name_byte bs) e in
    rw (is_part_byte-from_is_name_byte b both.0, list_all-is_part_byte bs both.1) refl

-- a name after a front of at most 32 such bytes
pub IsPartName-append : (front name : List ℕ) → list_all is_part_byte front ≡ true → length front ≤ 32
    → is_name name ≡ true → IsPartName (front ++ name)
unfolding is_name
IsPartName-append front name fits short is =
    let all = and_parts _ (list_all is_name_byte name) is in
    let long = and_parts _ _ all.0 in
    let from = leb-true 1 (length name) long.0 in
    let to = leb-true (length name) 32 long.1 in
    record {
      some = simp length-append (omega arith);
      short = simp length-append (omega arith);
      bytes = AllPass-from_list_all is_part_byte (front ++ name)
          (rw (list_all-append, fits, list_all-is_part_byte name all.1) refl);
    }
