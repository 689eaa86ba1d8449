-- The faults that each run can return (docs/FORMATS.md, the section "The program"), whatever its devices do:
-- those of what it reads, those of its devices, and that memory ran out.
use Rattle.std.specs.Prelude.{◌≡◌, ℕ, ⊤}
use Rattle.mc_bundle.specs.declared.bundle_fault.BundleFault.TheVariants as bundle
use Rattle.mc_commands.specs.declared.fault.RunFault.{RunFault}
use Rattle.mc_commands.specs.declared.fault.RunFault.TheVariants.{Bundle, Parts, Topology, Vif, Cache}
use Rattle.mc_commands.specs.declared.fault.RunFault.TheVariants.{PartReports, Reports, Certificate}
use Rattle.mc_commands.specs.declared.fault.RunFault.TheVariants.{NoSuchFlow, NoSuchRouter, Read, Write}
use Rattle.mc_commands.specs.declared.fault.RunFault.TheVariants.{Memory}

-- a fault that `wants` can return, which reads one report list
abbrev pub IsFaultOfWants : RunFault → Type 0
IsFaultOfWants (Reports fault) = ⊤
IsFaultOfWants Read = ⊤
IsFaultOfWants Write = ⊤
IsFaultOfWants Memory = ⊤
IsFaultOfWants _ = ⊥

-- a fault that `make` can return, which reads a bundle without a certificate
abbrev pub IsFaultOfMake : RunFault → Type 0
IsFaultOfMake (Bundle fault) = ⊤
IsFaultOfMake (Parts place) = ⊤
IsFaultOfMake (Topology fault) = ⊤
IsFaultOfMake (Vif part fault) = ⊤
IsFaultOfMake (Cache part fault) = ⊤
IsFaultOfMake (PartReports part fault) = ⊤
IsFaultOfMake Read = ⊤
IsFaultOfMake Write = ⊤
IsFaultOfMake Memory = ⊤
IsFaultOfMake _ = ⊥

-- a fault that `check` can return, which reads a bundle with a certificate
abbrev pub IsFaultOfCheck : RunFault → Type 0
IsFaultOfCheck (Certificate fault) = ⊤
IsFaultOfCheck fault = IsFaultOfMake fault

-- a fault that `replay` can return, which reads a bundle without a certificate; the topology may not list the
-- flow
abbrev pub IsFaultOfReplay : (flow : ℕ) → RunFault → Type 0
IsFaultOfReplay flow (NoSuchFlow number) = number ≡ flow
IsFaultOfReplay flow fault = IsFaultOfMake fault

-- a fault that `pack` can return. It reads files and judges only the topology; files that are too large for a
-- part or for a bundle are a fault of the bundle
abbrev pub IsFaultOfPack : RunFault → Type 0
IsFaultOfPack (Bundle bundle.TooLarge) = ⊤
IsFaultOfPack (Topology fault) = ⊤
IsFaultOfPack Read = ⊤
IsFaultOfPack Write = ⊤
IsFaultOfPack Memory = ⊤
IsFaultOfPack _ = ⊥

-- a fault that `audit` can return. It reads files and judges them all; a name of an excluded router may be in
-- no topology, and a file that is too large is a fault of the bundle that it would be a part of
abbrev pub IsFaultOfAudit : RunFault → Type 0
IsFaultOfAudit (Bundle bundle.TooLarge) = ⊤
IsFaultOfAudit (Topology fault) = ⊤
IsFaultOfAudit (Vif part fault) = ⊤
IsFaultOfAudit (Cache part fault) = ⊤
IsFaultOfAudit (PartReports part fault) = ⊤
IsFaultOfAudit (NoSuchRouter place) = ⊤
IsFaultOfAudit Read = ⊤
IsFaultOfAudit Write = ⊤
IsFaultOfAudit Memory = ⊤
IsFaultOfAudit _ = ⊥
