-- The names of a bundle's parts, checked one by one.
use Rattle.std.specs.Prelude.{◌≡◌, ℕ, ◌+◌, Bool, true, false, List, [], ◌∷◌, map, Option, Some, None, Result}
use Rattle.std.specs.Prelude.{Ok, Err, refl, option_map, if◌then◌else◌}
use Rattle.std.specs.Str.{bytes_eq}
use Rattle.std.proofs.Common.{ap, ◌∙◌, arith}
use Rattle.std.proofs.lemmas.Slice.Eq.{bytes_eq-Decides}
use Rattle.mc_bundle.specs.Bundle.{PartText}
use Rattle.mc_topology.specs.Topology.{TopologyValue}
use Rattle.mc_files.specs.PartMismatch.{first_part_mismatch, first_mismatch}
use Rattle.mc_files.specs.Layout.{Slot, part_name, slots}
use Rattle.mc_input.specs.InputReading.{part_name_fault, check_part_names}
use Rattle.mc_input.specs.PartsOneByOne.{check_names_from}
use Rattle.mc_input.specs.declared.fault.InputFault.{InputFault}
use Rattle.mc_input.specs.declared.fault.InputFault.TheVariants.{Parts}

-- ---- the names

-- the number of a mismatch, counted from another one
abbrev part_name_fault_from : ℕ → Option ℕ → Result (Unit {0}) InputFault
part_name_fault_from n None = Ok tt
part_name_fault_from n (Some k) = Err (Parts (n + k + 1))

-- counting on by one is counting from one more
part_name_fault_from-suc : (n : ℕ) (o : Option ℕ)
    → part_name_fault_from (n + 1) o ≡ part_name_fault_from n (option_map (λ k. k + 1) o)
part_name_fault_from-suc n None = refl
part_name_fault_from-suc n (Some k) = ap (λ m. Err (Parts m)) (omega arith)

-- a mismatch of the first name is that at the number counted from
Parts-add_zero : (n : ℕ) → (let r : Result (Unit {0}) InputFault = Err (Parts (n + 1)) in r)
    ≡ Err (Parts (n + 0 + 1))
Parts-add_zero n = ap (λ m. Err (Parts m)) (omega arith)

-- checking one by one finds the first mismatch of the two lists of names
check_names_from-first_mismatch : (n : ℕ) (ss : List Slot) (parts : List PartText)
    → check_names_from n ss parts
    ≡ part_name_fault_from n (first_mismatch (map part_name ss) (map (λ part. part.name) parts))
check_names_from-first_mismatch n [] [] = refl
check_names_from-first_mismatch n [] (part ∷ parts) = Parts-add_zero n
check_names_from-first_mismatch n (slot ∷ ss) [] = Parts-add_zero n
check_names_from-first_mismatch n (slot ∷ ss) (part ∷ parts) =
    case_of (bytes_eq part.name (part_name slot)) (check_names_from-first_mismatch (n + 1) ss parts)
  where
    case_of : (b : Bool) → check_names_from (n + 1) ss parts
        ≡ part_name_fault_from (n + 1) (first_mismatch (map part_name ss) (map (λ p. p.name) parts))
        → (if b then check_names_from (n + 1) ss parts else Err (Parts (n + 1)))
        ≡ part_name_fault_from n (if b then option_map (λ k. k + 1)
        (first_mismatch (map part_name ss) (map (λ p. p.name) parts)) else Some 0)
    case_of true rest = rest ∙ part_name_fault_from-suc n _
    case_of false rest = Parts-add_zero n

-- counted from the first part it is the fault of the whole
part_name_fault_from-zero : (o : Option ℕ) → part_name_fault_from 0 o ≡ part_name_fault o
part_name_fault_from-zero None = refl
part_name_fault_from-zero (Some n) =
    let same : 0 + n + 1 ≡ n + 1 = omega arith in ap (λ m. Err (Parts m)) same

-- so checking all one by one is the check of the whole
pub check_names_from-zero : (certified : Bool) (t : TopologyValue) (parts : List PartText)
    → check_names_from 0 (slots certified t) parts ≡ check_part_names certified parts t
check_names_from-zero certified t parts =
    check_names_from-first_mismatch 0 (slots certified t) parts
    ∙ part_name_fault_from-zero (first_part_mismatch certified t parts)

-- parts that pass the check have the names
pub names-from_check_names_from : (n : ℕ) (ss : List Slot) (parts : List PartText)
    → check_names_from n ss parts ≡ Ok tt → map (λ part. part.name) parts ≡ map part_name ss
names-from_check_names_from n [] [] e = refl
names-from_check_names_from n [] (part ∷ parts) e = absurd cc
names-from_check_names_from n (slot ∷ ss) [] e = absurd cc
names-from_check_names_from n (slot ∷ ss) (part ∷ parts) e =
    by (bytes_eq part.name (part_name slot)) refl (names-from_check_names_from (n + 1) ss parts) e
  where
    by : (b : Bool) → bytes_eq part.name (part_name slot) ≡ b
        → (check_names_from (n + 1) ss parts ≡ Ok tt → map (λ p. p.name) parts ≡ map part_name ss)
        → (if b then check_names_from (n + 1) ss parts else Err (Parts (n + 1))) ≡ Ok tt
        → map (λ p. p.name) (part ∷ parts) ≡ map part_name (slot ∷ ss)
    by true is others found =
        let first : part.name ≡ part_name slot = (bytes_eq-Decides part.name (part_name slot)).0 is in
        let rest = others found in cc
    by false is others found = absurd cc
