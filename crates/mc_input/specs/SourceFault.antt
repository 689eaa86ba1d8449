-- The faults of reading a domain from a bundle or a folder (docs/FORMATS.md, "The parts of a domain"): each
-- fault of a reader of bundles, tables or lists as one of these, and the two that say nothing about the
-- texts.
use Rattle.std.specs.Prelude.{◌≡◌, ◌⊎◌, Bool, true, false, List, Option, Result}
use Rattle.mc_text.specs.Steps as Steps
use Rattle.mc_bundle.specs.declared.bundle_fault.BundleFault.{BundleFault}
use Rattle.mc_bundle.specs.declared.bundle_fault.BundleFault.TheVariants as bundle
use Rattle.mc_files.specs.Files as Files
use Rattle.mc_files.specs.Files.{FileText}
use Rattle.mc_files.specs.declared.fault.FileFault.{FileFault}
use Rattle.mc_files.specs.declared.fault.FileFault.TheVariants as file
use Rattle.mc_input.specs.declared.fault.InputFault.TheVariants.{Bundle, Memory, Parts}
use Rattle.mc_input.specs.declared.source_fault.SourceFault.{SourceFault}
use Rattle.mc_input.specs.declared.source_fault.SourceFault.TheVariants.{Input, Read}

-- the fault of a source of files; a file that is too large counts as a bundle that is too large
abbrev pub from_file_fault : FileFault → SourceFault
from_file_fault file.Failed = Read
from_file_fault file.TooLarge = Input (Bundle bundle.TooLarge)
from_file_fault file.Memory = Input Memory

-- the fault of a bundle
abbrev pub from_bundle_fault : BundleFault → SourceFault
from_bundle_fault bundle.Read = Read
from_bundle_fault bundle.Memory = Input Memory
from_bundle_fault fault = Input (Bundle fault)

-- The source failed or memory ran out, which says nothing about the texts.
abbrev pub IsReadOrMemory : SourceFault → Type 0
IsReadOrMemory fault = (fault ≡ Read) ⊎ (fault ≡ Input Memory)

-- What a call answers, seen through a view, is this, unless the source failed or memory ran out.
abbrev pub Gives : {X Y : Type 0} → (X → Y) → Result X SourceFault → Result Y SourceFault → Type 0
Gives = Steps.Gives IsReadOrMemory

-- What a call answers is what is answered on the source's contents, if those are known, unless the source
-- failed or memory ran out.
abbrev pub GivesFromContents : {X Y : Type 0} → Option (List FileText) → (X → Y) → Result X SourceFault
    → (List FileText → Result Y SourceFault) → Type 0
GivesFromContents = Files.GivesFromContents IsReadOrMemory

-- whether the fault is that the source failed, which the source counts
abbrev pub is_read : SourceFault → Bool
is_read Read = true
is_read fault = false

-- Whether a folder's files can have this fault: it is no fault of a bundle's framing but `TooLarge`, and no
-- fault of the parts' names.
abbrev pub is_possible_for_files : SourceFault → Bool
is_possible_for_files (Input (Bundle bundle.TooLarge)) = true
is_possible_for_files (Input (Bundle fault)) = false
is_possible_for_files (Input (Parts place)) = false
is_possible_for_files fault = true
