-- Reading one file of a folder, and what is kept of it.
use Rattle.std.specs.Prelude.{◌≡◌, ℕ, List, Result, Ok, Err, refl}
use Rattle.std.proofs.Common.{ap, inl, inr, subst}
use Rattle.mc_bundle.specs.Bundle.{PartText}
use Rattle.mc_files.specs.FilePart.{IsFailedOrMemory, file_part}
use Rattle.mc_files.specs.Files.{FileText}
use Rattle.mc_files.specs.Layout.{Slot}
use Rattle.mc_files.specs.declared.fault.FileFault.{FileFault}
use Rattle.mc_files.specs.declared.fault.FileFault.TheVariants as file
use Rattle.mc_input.specs.SourceFault.{IsReadOrMemory, from_file_fault}
use Rattle.mc_input.specs.FilesReading.{files_as_source}
use Rattle.mc_input.specs.PartsReading.{read_part}
use Rattle.mc_input.specs.declared.fault.InputFault.{InputFault}
use Rattle.mc_input.specs.declared.fault.InputFault.TheVariants.{Memory}
use Rattle.mc_input.specs.declared.source_fault.SourceFault.TheVariants.{Input}

-- a silent fault of a file is silent as one of the folder
pub IsReadOrMemory-from_file_fault : (fault : FileFault) → IsFailedOrMemory fault
    → IsReadOrMemory (from_file_fault fault)
IsReadOrMemory-from_file_fault file.Failed silent = inl refl
IsReadOrMemory-from_file_fault file.TooLarge silent = absurd silent
IsReadOrMemory-from_file_fault file.Memory silent = inr refl

module _ {X : Type 0} (files : List FileText) (n : ℕ) (slot given : Slot)
    (read : PartText → Result X InputFault) where
  -- the file makes no part
  pub read_part-file_Err : (fault : FileFault) → given ≡ slot
      → ((¬ IsFailedOrMemory fault) → file_part files given ≡ Err fault)
      → (¬ IsReadOrMemory (from_file_fault fault))
      → read_part Input (files_as_source files n slot) read ≡ Err (from_file_fault fault)
  read_part-file_Err fault is refused says =
      let made = subst (λ (s : Slot). file_part files s ≡ Err fault) is
      (refused (λ silent. says (IsReadOrMemory-from_file_fault fault silent))) in
      rw (made) refl

  -- its part is refused
  pub read_part-content_Err : (part text : PartText) (fault : InputFault) → given ≡ slot
      → file_part files given ≡ Ok part → text ≡ part
      → ((¬ (fault ≡ Memory)) → read text ≡ Err fault) → (¬ IsReadOrMemory (Input fault))
      → read_part Input (files_as_source files n slot) read ≡ Err (Input fault)
  read_part-content_Err part text fault is made same refused says =
      let here = subst (λ (s : Slot). file_part files s ≡ Ok part) is made in
      let reads = subst (λ (p : PartText). read p ≡ Err fault) same
      (refused (λ memory. says (inr (ap (λ x. Input x) memory)))) in
      rw (here, reads) refl

  -- or it is read
  pub read_part-Ok : (part text : PartText) (x : X) → given ≡ slot
      → file_part files given ≡ Ok part → text ≡ part → read text ≡ Ok x
      → read_part Input (files_as_source files n slot) read ≡ Ok x
  read_part-Ok part text x is made same found =
      let here = subst (λ (s : Slot). file_part files s ≡ Ok part) is made in
      let reads = subst (λ (p : PartText). read p ≡ Ok x) same found in
      rw (here, reads) refl
