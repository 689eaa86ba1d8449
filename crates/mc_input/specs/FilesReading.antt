-- The input that a folder's files are read as, or the first fault (docs/FORMATS.md, "The files of a folder").
-- Each file is read and judged before the next one is opened, in the order of the slots.
use Rattle.std.specs.Prelude.{ℕ, List, Result, Ok}
use Rattle.mc_text.specs.Steps.{map_fault}
use Rattle.mc_bundle.specs.Bundle.{PartText}
use Rattle.mc_files.specs.FilePart.{file_part}
use Rattle.mc_files.specs.Files.{FileText}
use Rattle.mc_files.specs.Layout.{Slot, topology_slot}
use Rattle.mc_topology.specs.Topology.{TopologyValue}
use Rattle.mc_input.specs.SourceFault.{from_file_fault}
use Rattle.mc_input.specs.Input.{InputValue}
use Rattle.mc_input.specs.PartsReading.{read_input, read_part, topology_of}
use Rattle.mc_input.specs.declared.fault.InputFault.{InputFault}
use Rattle.mc_input.specs.declared.source_fault.SourceFault.{SourceFault}
use Rattle.mc_input.specs.declared.source_fault.SourceFault.TheVariants.{Input}

-- the part that a slot's file makes, or the fault for which there is none
abbrev pub part_of_slot : List FileText → Slot → Result PartText SourceFault
part_of_slot files slot = map_fault from_file_fault (file_part files slot)

-- the result of reading a slot's file
abbrev pub read_file : {X : Type 0} → Slot → (PartText → Result X InputFault) → List FileText
    → Result X SourceFault
read_file slot read files = read_part Input (part_of_slot files slot) read

-- the topology of the files
abbrev pub topology_of_files : List FileText → Result TopologyValue SourceFault
topology_of_files = read_file topology_slot topology_of

-- the files as what gives the part of a slot, by the slot and its number: a file is found by the slot alone
abbrev pub files_as_source : List FileText → (number : ℕ) → Slot → Result PartText SourceFault
files_as_source files number slot = part_of_slot files slot

-- the input of the files; which files there are beside those of the slots makes no difference
abbrev pub input_of_files : List FileText → Result InputValue SourceFault
input_of_files files = read_input Input (files_as_source files) (λ t. Ok tt)
