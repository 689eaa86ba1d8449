-- The parts of the bundle that is packed of a folder's files, or the first fault. The topology is
-- parsed before another file is read; then comes the first missing or too large file, and last a
-- bundle that is too large.
use Rattle.std.specs.Prelude.{ℕ, nat_le, Bool, List, [], ◌∷◌, ◌++◌, length, Result, Ok, Err}
use Rattle.std.specs.Prelude.{if◌then◌else◌}
use Rattle.mc_text.specs.Steps.{◌>>=◌, map_fault}
use Rattle.mc_bundle.specs.Bundle.{PartText, bundle_spelling, max_bundle}
use Rattle.mc_topology.specs.Reading.{parse_topology}
use Rattle.mc_topology.specs.Topology.{TopologyValue}
use Rattle.mc_files.specs.FilePart.{file_part}
use Rattle.mc_files.specs.Files.{FileText}
use Rattle.mc_files.specs.Layout.{Slot, topology_slot, slots_after_topology}
use Rattle.mc_files.specs.declared.fault.FileFault.{FileFault}
use Rattle.mc_files.specs.declared.fault.FileFault.TheVariants as file
use Rattle.mc_files.specs.declared.fault.PackFault.{PackFault}
use Rattle.mc_files.specs.declared.fault.PackFault.TheVariants.{Topology, TooLarge, Read, Memory}

-- a file's fault as a fault of packing
abbrev pub from_file_fault : FileFault → PackFault
from_file_fault file.Failed = Read
from_file_fault file.TooLarge = TooLarge
from_file_fault file.Memory = Memory

-- the part that a slot's file makes, or its fault as one of packing
abbrev pub part_of_slot : List FileText → Slot → Result PartText PackFault
part_of_slot files slot = map_fault from_file_fault (file_part files slot)

-- the parts `before`, and after them those of these slots
unfoldable pub parts_after : List FileText → List PartText → List Slot
    → Result (List PartText) PackFault
parts_after files before [] = Ok before
parts_after files before (slot ∷ slots) =
    part_of_slot files slot >>= λ part. parts_after files (before ++ part ∷ []) slots

-- the topology of a text, or its fault as one of packing
abbrev pub read_topology : List ℕ → Result TopologyValue PackFault
read_topology text = map_fault Topology (parse_topology text)

-- the parts of a domain's files, with or without a certificate's, however many bytes they have
-- together
unfoldable pub parts_before_limits : Bool → List FileText → Result (List PartText) PackFault
parts_before_limits certified files =
    part_of_slot files topology_slot
    >>= λ first. read_topology first.bytes
    >>= λ topology. parts_after files (first ∷ []) (slots_after_topology certified topology)

-- the parts, whose bundle must not be too large (else TooLarge)
unfoldable pub within_limits : List PartText → Result (List PartText) PackFault
within_limits parts =
    if nat_le (length (bundle_spelling parts)) max_bundle then Ok parts else Err TooLarge

-- the parts of the bundle that is packed of the files, with or without a certificate's
unfoldable pub packed_parts : Bool → List FileText → Result (List PartText) PackFault
packed_parts certified files = parts_before_limits certified files >>= within_limits
