-- When a file of a folder makes a part.
use Rattle.std.proofs.Common.{◌≡◌, ℕ, ◌≤◌, List, length, Option, Some, None, Ok, refl, ap, subst}
use Rattle.std.specs.Prelude.{nat_le}
use Rattle.std.proofs.lemmas.Bool.{leb-true, le-leb}
use Rattle.mc_text.specs.Steps.{◌>>=◌}
use Rattle.mc_bundle.specs.Bundle.{PartText, max_part}
use Rattle.mc_topology.proofs.Steps.{bind_ok, checked_ok, ok_injective}
pub use Rattle.mc_topology.proofs.Steps.{map_fault_ok as Ok-from_refused_as}
use Rattle.mc_files.specs.FilePart.{bytes_within_max_part, file_part}
use Rattle.mc_files.specs.Files.{FileText, file_named}
use Rattle.mc_files.specs.Layout.{Slot, file_name, part_name}
use Rattle.mc_files.specs.declared.fault.FileFault.TheVariants.{TooLarge}

-- a part is no larger than it may be
abbrev pub IsWithinMaxPart : PartText → Type 0
IsWithinMaxPart part = length part.bytes ≤ max_part

-- the part is made of the file that was found
abbrev pub IsPartOfFile : Option (List ℕ) → List ℕ → PartText → Type 0
IsPartOfFile found name part = (part.name ≡ name) × (found ≡ Some part.bytes) × IsWithinMaxPart part

-- bytes that aren't too many are the file's part
IsPartOfFile-from_bytes : (found : Option (List ℕ)) (name : List ℕ) (part : PartText)
    → (bytes_within_max_part found >>= λ bytes. Ok (record { name = name; bytes = bytes })) ≡ Ok part
    → IsPartOfFile found name part
IsPartOfFile-from_bytes None name part e = absurd cc
IsPartOfFile-from_bytes (Some bytes) name part e =
    let kept = bind_ok (bytes_within_max_part (Some bytes)) _ part e in
    let (same, small) =
    checked_ok (λ (bs : List ℕ). nat_le (length bs) max_part) TooLarge bytes kept.0 kept.1 in
    let is : record { name = name; bytes = kept.0 } ≡ part = ok_injective _ part kept.2 in
    subst (λ (p : PartText). IsPartOfFile (Some bytes) name p) is
    (refl, ap Some same, leb-true (length kept.0) max_part small)

-- so it is for the file of a slot
pub IsPartOfFile-from_file_part : (files : List FileText) (slot : Slot) (part : PartText)
    → file_part files slot ≡ Ok part
    → IsPartOfFile (file_named files (file_name slot)) (part_name slot) part
IsPartOfFile-from_file_part files slot part e =
    IsPartOfFile-from_bytes (file_named files (file_name slot)) (part_name slot) part e

-- and what is made of a file is its part
pub file_part-Ok : (files : List FileText) (slot : Slot) (part : PartText)
    → part.name ≡ part_name slot → file_named files (file_name slot) ≡ Some part.bytes
    → IsWithinMaxPart part → file_part files slot ≡ Ok part
file_part-Ok files slot part named found small =
    rw (found, ← named, le-leb (length part.bytes) max_part small) refl
