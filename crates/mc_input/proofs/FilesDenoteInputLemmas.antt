-- A folder's files denote what they are read as.
use Rattle.std.specs.Prelude.{◌≡◌, ℕ, ◌+◌, false, List, [], ◌∷◌, None, Ok}
use Rattle.std.specs.Prelude.{refl}
use Rattle.std.specs.List.{AllByRecursion}
use Rattle.mc_bundle.specs.Bundle.{PartText}
use Rattle.mc_files.specs.FilePart.{file_part}
use Rattle.mc_files.specs.Files.{FileText}
use Rattle.mc_files.specs.Layout.{Slot, slots}
use Rattle.mc_files.specs.Packing.{ArePacked}
use Rattle.mc_files.proofs.PartLemmas.{IsWithinMaxPart, Ok-from_refused_as}
use Rattle.mc_files.proofs.PartLemmas.{IsPartOfFile-from_file_part, file_part-Ok}
use Rattle.mc_input.specs.Input.{InputValue}
use Rattle.mc_input.specs.SourceFault.{from_file_fault}
use Rattle.mc_input.specs.FilesInput.{FilesDenoteInput}
use Rattle.mc_input.specs.FilesReading.{files_as_source, input_of_files}
use Rattle.mc_input.specs.declared.source_fault.SourceFault.TheVariants.{Input}
use Rattle.mc_input.proofs.SourceOfPartsLemmas.{Serves, GivesSlotNames}
use Rattle.mc_input.proofs.SourceOfPartsLemmas.{HasInputParts-from_read_input, read_input-denoted}

-- the part that a file makes has the name of its slot
GivesSlotNames-files_as_source : (files : List FileText) → GivesSlotNames (files_as_source files)
GivesSlotNames-files_as_source files n slot part e =
    (IsPartOfFile-from_file_part files slot part
    (Ok-from_refused_as from_file_fault (file_part files slot) part e)).0

-- the parts that are made of the files are packed of them
ArePacked-from_Serves : (files : List FileText) (n : ℕ) (slots : List Slot) (parts : List PartText)
    → Serves (files_as_source files) n slots parts []
    → ArePacked files slots parts × AllByRecursion IsWithinMaxPart parts
ArePacked-from_Serves files n [] [] h = (tt, tt)
ArePacked-from_Serves files n [] (part ∷ parts) h = absurd (cc)
ArePacked-from_Serves files n (slot ∷ slots) [] h = absurd h
ArePacked-from_Serves files n (slot ∷ slots) (part ∷ parts) h =
    let made = IsPartOfFile-from_file_part files slot part
    (Ok-from_refused_as from_file_fault (file_part files slot) part h.0) in
    let more = ArePacked-from_Serves files (n + 1) slots parts h.1 in
    ((made.0, made.1, more.0), (made.2, more.1))

-- and parts that are packed of the files are given by them
Serves-from_ArePacked : (files : List FileText) (n : ℕ) (slots : List Slot) (parts : List PartText)
    → ArePacked files slots parts → AllByRecursion IsWithinMaxPart parts
    → Serves (files_as_source files) n slots parts []
Serves-from_ArePacked files n [] [] packed small = refl
Serves-from_ArePacked files n [] (part ∷ parts) packed small = absurd packed
Serves-from_ArePacked files n (slot ∷ slots) [] packed small = absurd packed
Serves-from_ArePacked files n (slot ∷ slots) (part ∷ parts) packed small = (
  rw (file_part-Ok files slot part packed.0 packed.1 small.0) refl,
  Serves-from_ArePacked files (n + 1) slots parts packed.2 small.1,
)

-- files denote the input that they are read as
pub FilesDenoteInput-from_input_of_files : (files : List FileText) (v : InputValue)
    → input_of_files files ≡ Ok v → FilesDenoteInput files v
FilesDenoteInput-from_input_of_files files v e =
    let all = HasInputParts-from_read_input Input (files_as_source files) (GivesSlotNames-files_as_source files)
    (λ t. Ok tt) v [] None e refl in
    let packed = ArePacked-from_Serves files 0 (slots false v.topology) all.parts all.served in
    record { parts = all.parts; packed = packed.0; sizes = packed.1; parts_denote = all.parts_denote }

-- and files that denote an input are read as it
pub input_of_files-Ok : (files : List FileText) (v : InputValue) → FilesDenoteInput files v
    → input_of_files files ≡ Ok v
input_of_files-Ok files v h =
    (read_input-denoted Input (files_as_source files) (λ t. Ok tt) h.parts v None h.parts_denote []
    (Serves-from_ArePacked files 0 (slots false v.topology) h.parts h.packed h.sizes) refl).0
