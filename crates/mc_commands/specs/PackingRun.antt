-- The answer of `pack` (docs/FORMATS.md, "The files of a folder").
use Rattle.std.specs.Prelude.{◌≡◌, Bool, List, Result, Ok, Err, ⊤}
use Rattle.mc_bundle.specs.Bundle.{PartText}
use Rattle.mc_bundle.specs.declared.bundle_fault.BundleFault.TheVariants as bundle
use Rattle.mc_files.specs.Files.{FileText}
use Rattle.mc_files.specs.Packing.{IsPacked}
use Rattle.mc_files.specs.PackReading.{packed_parts}
use Rattle.mc_files.specs.declared.fault.PackFault.{PackFault}
use Rattle.mc_files.specs.declared.fault.PackFault.TheVariants as packing
use Rattle.mc_commands.specs.declared.fault.RunFault.{RunFault}
use Rattle.mc_commands.specs.declared.fault.RunFault.TheVariants.{Bundle, Topology, Read, Write, Memory}

-- a fault of packing as one of the run
abbrev pub from_pack_fault : PackFault → RunFault
from_pack_fault (packing.Topology fault) = Topology fault
from_pack_fault packing.TooLarge = Bundle bundle.TooLarge
from_pack_fault packing.Read = Read
from_pack_fault packing.Write = Write
from_pack_fault packing.Memory = Memory

-- The files can be packed as a bundle, or the fault is the first reason why they can't. A device's fault and
-- lack of memory say nothing about the files, of which only the topology is judged.
abbrev pub IsPackRunAnswer : Bool → List FileText → Result (Unit {0}) RunFault → Type 0
IsPackRunAnswer certified files (Ok done) = (parts : List PartText) × IsPacked files certified parts
IsPackRunAnswer certified files (Err (Topology fault)) =
    packed_parts certified files ≡ Err (packing.Topology fault)
IsPackRunAnswer certified files (Err (Bundle bundle.TooLarge)) =
    packed_parts certified files ≡ Err packing.TooLarge
IsPackRunAnswer certified files (Err Read) = ⊤
IsPackRunAnswer certified files (Err Write) = ⊤
IsPackRunAnswer certified files (Err Memory) = ⊤
IsPackRunAnswer certified files (Err _) = ⊥

-- A device failed, or memory ran out.
abbrev pub IsDeviceOrMemoryFault : RunFault → Type 0
IsDeviceOrMemoryFault Read = ⊤
IsDeviceOrMemoryFault Write = ⊤
IsDeviceOrMemoryFault Memory = ⊤
IsDeviceOrMemoryFault _ = ⊥
