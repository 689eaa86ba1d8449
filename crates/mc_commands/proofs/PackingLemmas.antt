-- The result of packing, with the run's faults.
use Rattle.std.proofs.Common.{◌≡◌, ℕ, Bool, List, Option, Some, None, Result, Ok, Err, refl, ap, ◌∙◌}
use Rattle.std.specs.Prelude.{◌≢◌, IfErr, IfSome, IsErrAnd}
use Rattle.mc_files.specs.Files.{FileText}
use Rattle.mc_files.specs.PackRun.{IsPackAnswer, IsIoOrMemory, is_read as is_file_read}
use Rattle.mc_files.specs.PackRun.{is_write as is_bundle_write}
use Rattle.mc_files.specs.declared.fault.PackFault.{PackFault}
use Rattle.mc_files.specs.declared.fault.PackFault.TheVariants as packing
use Rattle.mc_commands.specs.declared.fault.RunFault.{RunFault}
use Rattle.mc_commands.specs.declared.fault.RunFault.TheVariants.{Write}
use Rattle.mc_bundle.specs.Device.{failures_after}
use Rattle.mc_commands.specs.Failures.{is_read, is_write}
use Rattle.mc_commands.specs.Faults.{IsFaultOfPack}
use Rattle.mc_commands.specs.PackingRun.{IsPackRunAnswer, IsDeviceOrMemoryFault, from_pack_fault}

-- the answer of a run by this fault of packing
abbrev FaultResult : PackFault → Result (Unit {0}) RunFault
FaultResult f = Err (from_pack_fault f)

-- the fault is right for the run
abbrev pub IsResultOfFault : PackFault → Result (Unit {0}) RunFault → Type 0
IsResultOfFault f r = IsErrAnd r (λ fault. fault ≡ from_pack_fault f)

-- such an answer is that by the fault
result-of_pack_fault : (f : PackFault) (r : Result (Unit {0}) RunFault) → IsResultOfFault f r → r
    ≡ FaultResult f
result-of_pack_fault f (Ok done) e = absurd e
result-of_pack_fault f (Err fault) e = rw e refl

-- what packing answers is what the run answers
is_pack_answer-fault_result : (certified : Bool) (files : List FileText) (f : PackFault)
    → IsPackAnswer certified files (Err f) → IsPackRunAnswer certified files (FaultResult f)
is_pack_answer-fault_result certified files (packing.Topology f) is = is
is_pack_answer-fault_result certified files packing.TooLarge is = is
is_pack_answer-fault_result certified files packing.Read is = tt
is_pack_answer-fault_result certified files packing.Write is = tt
is_pack_answer-fault_result certified files packing.Memory is = tt

-- if the run returns packing's fault, its answer is right for the files as packing's is
pub is_pack_answer-of_result : (contents : Option (List FileText)) (certified : Bool) (f : PackFault)
    (r : Result (Unit {0}) RunFault) → IsResultOfFault f r
    → IfSome contents (λ files. IsPackAnswer certified files (Err f))
    → IfSome contents (λ files. IsPackRunAnswer certified files r)
is_pack_answer-of_result None certified f r e is = tt
is_pack_answer-of_result (Some files) certified f r e is =
    rw (result-of_pack_fault f r e) (is_pack_answer-fault_result certified files f is)

-- the fault is one of packing
is_fault_of_pack-pack_fault : (f : PackFault) → IsFaultOfPack (from_pack_fault f)
is_fault_of_pack-pack_fault (packing.Topology f) = tt
is_fault_of_pack-pack_fault packing.TooLarge = tt
is_fault_of_pack-pack_fault packing.Read = tt
is_fault_of_pack-pack_fault packing.Write = tt
is_fault_of_pack-pack_fault packing.Memory = tt

-- if the run returns packing's fault, it is one that `pack` may return
pub is_fault_of_pack-of_result : (f : PackFault) (r : Result (Unit {0}) RunFault) → IsResultOfFault f r
    → IfErr r IsFaultOfPack
is_fault_of_pack-of_result f r e = rw (result-of_pack_fault f r e) (is_fault_of_pack-pack_fault f)

-- a silent fault of packing is silent in the run
is_device_or_memory_fault-silent : (f : PackFault) → IsIoOrMemory f
    → IsDeviceOrMemoryFault (from_pack_fault f)
is_device_or_memory_fault-silent (packing.Topology f) none = absurd none
is_device_or_memory_fault-silent packing.TooLarge none = absurd none
is_device_or_memory_fault-silent packing.Read none = tt
is_device_or_memory_fault-silent packing.Write none = tt
is_device_or_memory_fault-silent packing.Memory none = tt

-- if packing fails by a device or for want of memory, the run returns such a fault
pub is_device_or_memory_fault-of_result : (f : PackFault) (r : Result (Unit {0}) RunFault)
    → IsResultOfFault f r → IsIoOrMemory f
    → IfErr r IsDeviceOrMemoryFault
is_device_or_memory_fault-of_result f r e none = rw (result-of_pack_fault f r e)
    (is_device_or_memory_fault-silent f none)

-- the run's `Write` is packing's `Write`
from_pack_fault-write : (f : PackFault) → from_pack_fault f ≡ Write → f ≡ packing.Write
from_pack_fault-write (packing.Topology f) e = absurd cc
from_pack_fault-write packing.TooLarge e = absurd cc
from_pack_fault-write packing.Read e = absurd cc
from_pack_fault-write packing.Write e = refl
from_pack_fault-write packing.Memory e = absurd cc

-- the answer of packing by this fault
abbrev PackFaultResult : PackFault → Result (Unit {0}) PackFault
PackFaultResult f = Err f

-- what follows from packing's `Write` follows from the run's
pub write_fault-of_result : (f : PackFault) (r : Result (Unit {0}) RunFault) (P : Type 0)
    → IsResultOfFault f r
    → (PackFaultResult f ≡ PackFaultResult packing.Write → P) → r ≡ Err Write → P
write_fault-of_result f r P e packed write =
    let is = result-of_pack_fault f r e in
    let same : from_pack_fault f ≡ Write = cc in
    packed (ap PackFaultResult (from_pack_fault-write f same))

-- what follows from a fault of packing other than `Write` follows from the run's
pub no_write_fault-of_result : (f : PackFault) (r : Result (Unit {0}) RunFault) (P : Type 0)
    → IsResultOfFault f r
    → (f ≢ packing.Write → P) → IfErr r (λ fault. fault ≢ Write → P)
no_write_fault-of_result f r P e packed =
    rw (result-of_pack_fault f r e) (λ other. packed (λ is. other (ap from_pack_fault is)))

-- a failed read is counted once in both
counted_reads-pack_fault : (f : PackFault) (before : ℕ)
    → failures_after {X = Unit {0}} is_file_read (Err f) before
    ≡ failures_after is_read (FaultResult f) before
counted_reads-pack_fault (packing.Topology f) before = refl
counted_reads-pack_fault packing.TooLarge before = refl
counted_reads-pack_fault packing.Read before = refl
counted_reads-pack_fault packing.Write before = refl
counted_reads-pack_fault packing.Memory before = refl

-- and so is a failed write
counted_writes-pack_fault : (f : PackFault) (before : ℕ)
    → failures_after {X = Unit {0}} is_bundle_write (Err f) before
    ≡ failures_after is_write (FaultResult f) before
counted_writes-pack_fault (packing.Topology f) before = refl
counted_writes-pack_fault packing.TooLarge before = refl
counted_writes-pack_fault packing.Read before = refl
counted_writes-pack_fault packing.Write before = refl
counted_writes-pack_fault packing.Memory before = refl

-- a failed read of packing counts as one of the run
pub counted_reads-of_result : (f : PackFault) (r : Result (Unit {0}) RunFault) (before after : ℕ)
    → IsResultOfFault f r
    → after ≡ failures_after {X = Unit {0}} is_file_read (Err f) before → after
    ≡ failures_after is_read r before
counted_reads-of_result f r before after e is = rw (result-of_pack_fault f r e)
    (is ∙ counted_reads-pack_fault f before)

-- a failed write of packing counts as one of the run
pub counted_writes-of_result : (f : PackFault) (r : Result (Unit {0}) RunFault) (before after : ℕ)
    → IsResultOfFault f r
    → after ≡ failures_after {X = Unit {0}} is_bundle_write (Err f) before → after
    ≡ failures_after is_write r before
counted_writes-of_result f r before after e is = rw (result-of_pack_fault f r e)
    (is ∙ counted_writes-pack_fault f before)
