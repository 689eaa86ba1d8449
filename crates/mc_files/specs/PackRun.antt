-- What packing a folder's files answers and writes, and which of its faults are failures of a
-- device.
use Rattle.std.specs.Prelude.{◌≡◌, ℕ, Bool, true, false, List, Option, Result, Ok, Err, ⊤}
use Rattle.mc_bundle.specs.Bundle.{PartText, bundle_spelling}
use Rattle.mc_bundle.specs.Bundle.{AppendsBundle}
use Rattle.mc_bundle.specs.Device.{AppendsProperPrefix}
use Rattle.mc_files.specs.Files.{FileText}
use Rattle.mc_files.specs.Packing.{IsPacked}
use Rattle.mc_files.specs.PackReading.{packed_parts}
use Rattle.mc_bundle.specs.declared.bundle_fault.BundleFault.{BundleFault}
use Rattle.mc_bundle.specs.declared.bundle_fault.BundleFault.TheVariants as bundle
use Rattle.mc_files.specs.declared.fault.PackFault.{PackFault}
use Rattle.mc_files.specs.declared.fault.PackFault.TheVariants.{Topology, TooLarge, Read, Write}
use Rattle.mc_files.specs.declared.fault.PackFault.TheVariants.{Memory}

-- a fault of writing a bundle, as one of packing
abbrev pub from_bundle_fault : BundleFault → PackFault
from_bundle_fault bundle.TooLarge = TooLarge
from_bundle_fault _ = Write

-- the fault is that a device failed or that memory ran out, and says nothing of the files
abbrev pub IsIoOrMemory : PackFault → Type 0
IsIoOrMemory (Topology fault) = ⊥
IsIoOrMemory TooLarge = ⊥
IsIoOrMemory _ = ⊤

-- The answer is right: there is a bundle of the files, or the fault is the first reason why there
-- is none. That a device failed or that memory ran out is right of all files.
abbrev pub IsPackAnswer : Bool → List FileText → Result (Unit {0}) PackFault → Type 0
IsPackAnswer certified files (Ok done) = (parts : List PartText) × IsPacked files certified parts
IsPackAnswer certified files (Err (Topology fault)) = packed_parts certified files ≡ Err (Topology fault)
IsPackAnswer certified files (Err TooLarge) = packed_parts certified files ≡ Err TooLarge
IsPackAnswer certified files (Err Read) = ⊤
IsPackAnswer certified files (Err Write) = ⊤
IsPackAnswer certified files (Err Memory) = ⊤

-- the bundle of the files was appended, whole, to what an output had taken
abbrev pub WritesPackedBundle : Bool → List FileText → Option (List ℕ) → Option (List ℕ) → Type 0
WritesPackedBundle certified files old new =
    (parts : List PartText) × IsPacked files certified parts × AppendsBundle old new parts

-- some bytes from the front of the files' bundle, but not all, were appended to what an output had
-- taken
abbrev pub WritesPackedPrefix : Bool → List FileText → Option (List ℕ) → Option (List ℕ) → Type 0
WritesPackedPrefix certified files old new =
    (parts : List PartText) × IsPacked files certified parts
    × AppendsProperPrefix old new (bundle_spelling parts)

-- whether the fault is that a read failed, which the source of the files counts
abbrev pub is_read : PackFault → Bool
is_read Read = true
is_read fault = false

-- whether the fault is that a write failed, which the output counts
abbrev pub is_write : PackFault → Bool
is_write Write = true
is_write fault = false
