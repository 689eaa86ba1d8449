-- What packing answers and writes, where the files' contents are known.
use Rattle.std.proofs.Common.{◌≡◌, ℕ, Bool, List, ◌⊎◌, inl, inr, Option, Some, None, Result, Ok}
use Rattle.std.proofs.Common.{Err, refl, ap, sym, subst}
use Rattle.std.specs.Prelude.{IfErr, IfOk, IfSome, OnOk}
use Rattle.mc_bundle.specs.Bundle.{PartText, AreWithinLimits, bundle_spelling}
use Rattle.mc_bundle.specs.Bundle.{AppendsBundle}
use Rattle.mc_bundle.specs.Device.{AppendsProperPrefix}
use Rattle.mc_text.specs.Steps.{Gives}
use Rattle.mc_files.specs.Files.{FileText, GivesFromContents}
use Rattle.mc_files.specs.Packing.{IsPacked}
use Rattle.mc_files.specs.PackReading.{packed_parts, parts_before_limits}
use Rattle.mc_files.specs.PackRun.{IsPackAnswer, IsIoOrMemory, WritesPackedBundle}
use Rattle.mc_files.specs.PackRun.{WritesPackedPrefix}
use Rattle.mc_files.specs.declared.fault.PackFault.{PackFault}
use Rattle.mc_files.specs.declared.fault.PackFault.TheVariants.{Topology, TooLarge, Read, Write}
use Rattle.mc_files.specs.declared.fault.PackFault.TheVariants.{Memory}
use Rattle.mc_files.proofs.PackLemmas.{IsPacked-within_limits, packed_parts-too_large, packed_parts-Err}
use Rattle.mc_files.proofs.PackLemmas.{packed_parts-Ok}

-- ---- the files are refused

-- the fault is what packing answers
IsPackAnswer-refused : {X : Type 0} (view : X → List PartText) (certified : Bool) (files : List FileText)
    (f : PackFault) → Gives IsIoOrMemory view (Err f) (parts_before_limits certified files)
    → IsPackAnswer certified files (Err f)
IsPackAnswer-refused view certified files (Topology f) given =
    packed_parts-Err files certified (Topology f) (given (λ no. no))
IsPackAnswer-refused view certified files TooLarge given =
    packed_parts-Err files certified TooLarge (given (λ no. no))
IsPackAnswer-refused view certified files Read given = tt
IsPackAnswer-refused view certified files Write given = tt
IsPackAnswer-refused view certified files Memory given = tt

-- so it is where the contents are known
pub IsPackAnswer-from_error : {X : Type 0} (view : X → List PartText) (contents : Option (List FileText))
    (certified : Bool) (r : Result (Unit {0}) PackFault) (f : PackFault)
    → GivesFromContents IsIoOrMemory contents view (Err f) (parts_before_limits certified) → r ≡ Err f
    → IfSome contents (λ files. IsPackAnswer certified files r)
IsPackAnswer-from_error view None certified r f given e = tt
IsPackAnswer-from_error view (Some files) certified r f given e =
    rw (e) (IsPackAnswer-refused view certified files f (given files refl))

-- a bundle of the files says that they aren't refused
IsIoOrMemory-from_packed : {X : Type 0} (view : X → List PartText) (certified : Bool) (files : List FileText)
    (parts : List PartText) (f : PackFault)
    → Gives IsIoOrMemory view (Err f) (parts_before_limits certified files)
    → packed_parts certified files ≡ Ok parts → IsIoOrMemory f
IsIoOrMemory-from_packed view certified files parts (Topology f) given is =
    let bad = packed_parts-Err files certified (Topology f) (given (λ no. no)) in
    absurd cc
IsIoOrMemory-from_packed view certified files parts TooLarge given is =
    let bad = packed_parts-Err files certified TooLarge (given (λ no. no)) in
    absurd cc
IsIoOrMemory-from_packed view certified files parts Read given is = tt
IsIoOrMemory-from_packed view certified files parts Write given is = tt
IsIoOrMemory-from_packed view certified files parts Memory given is = tt

-- and so is one where the files are packed
pub IsIoOrMemory-from_IsPacked : {X : Type 0} (view : X → List PartText) (certified : Bool)
    (files : List FileText) (parts : List PartText) (r : Result (Unit {0}) PackFault)
    (f : PackFault) → Gives IsIoOrMemory view (Err f) (parts_before_limits certified files) → r ≡ Err f
    → IsPacked files certified parts → IfErr r IsIoOrMemory
IsIoOrMemory-from_IsPacked view certified files parts r f given e is =
    rw (e) (IsIoOrMemory-from_packed view certified files parts f given
    (packed_parts-Ok files certified parts is))

-- ---- the parts are read, and written or not

-- the only faults of writing
abbrev IsTooLargeOrWrite : PackFault → Type 0
IsTooLargeOrWrite fault = (fault ≡ TooLarge) ⊎ (fault ≡ Write)

-- parts that aren't written: the answer is right
IsPackAnswer-unwritten : (files : List FileText) (certified : Bool) (items : List PartText) (f : PackFault)
    → parts_before_limits certified files ≡ Ok items → IsTooLargeOrWrite f
    → (f ≡ TooLarge → ¬ AreWithinLimits items) → IsPackAnswer certified files (Err f)
IsPackAnswer-unwritten files certified items f read (inl is) beyond =
    subst (λ (x : PackFault). IsPackAnswer certified files (Err x)) (sym is)
    (packed_parts-too_large files certified items read (beyond is))
IsPackAnswer-unwritten files certified items f read (inr is) beyond =
    subst (λ (x : PackFault). IsPackAnswer certified files (Err x)) (sym is) tt

-- parts that are written, or not: the answer is right
pub IsPackAnswer-written : (contents : Option (List FileText)) (certified : Bool)
    (items texts : List PartText)
    (old new : Option (List ℕ)) (r : Result (Unit {0}) PackFault)
    → ((files : List FileText) → contents ≡ Some files → parts_before_limits certified files ≡ Ok items)
    → texts ≡ items → OnOk r (AppendsBundle old new texts) → IfErr r IsTooLargeOrWrite
    → (r ≡ Err TooLarge → ¬ AreWithinLimits texts)
    → IfSome contents (λ files. IsPackAnswer certified files r)
IsPackAnswer-written None certified items texts old new r read same ok faults beyond = tt
IsPackAnswer-written (Some files) certified items texts old new (Ok x) read same ok faults beyond = (
  items,
  IsPacked-within_limits files certified items (read files refl) (subst AreWithinLimits same ok.1.limits),
)
IsPackAnswer-written (Some files) certified items texts old new (Err f) read same ok faults beyond =
    IsPackAnswer-unwritten files certified items f (read files refl) faults
    (λ is. subst (λ (ps : List PartText). ¬ AreWithinLimits ps) same (beyond (ap (λ x. Err x) is)))

-- parts that make a bundle are refused by a failed write alone
IsIoOrMemory-from_write_fault : (files : List FileText) (certified : Bool) (items parts : List PartText)
    (f : PackFault) → parts_before_limits certified files ≡ Ok items → packed_parts certified files ≡ Ok parts
    → IsTooLargeOrWrite f → (f ≡ TooLarge → ¬ AreWithinLimits items) → IsIoOrMemory f
IsIoOrMemory-from_write_fault files certified items parts f read packed (inl is) beyond =
    let bad = packed_parts-too_large files certified items read (beyond is) in
    absurd cc
IsIoOrMemory-from_write_fault files certified items parts f read packed (inr is) beyond =
    subst (λ (x : PackFault). IsIoOrMemory x) (sym is) tt

-- so a fault in the bundle's place is silent
pub IsIoOrMemory-written : (files : List FileText) (certified : Bool) (items texts parts : List PartText)
    (r : Result (Unit {0}) PackFault) → parts_before_limits certified files ≡ Ok items → texts ≡ items
    → IfErr r IsTooLargeOrWrite → (r ≡ Err TooLarge → ¬ AreWithinLimits texts)
    → IsPacked files certified parts → IfErr r IsIoOrMemory
IsIoOrMemory-written files certified items texts parts (Ok x) read same faults beyond is = tt
IsIoOrMemory-written files certified items texts parts (Err f) read same faults beyond is =
    IsIoOrMemory-from_write_fault files certified items parts f read
    (packed_parts-Ok files certified parts is) faults
    (λ e. subst (λ (ps : List PartText). ¬ AreWithinLimits ps) same (beyond (ap (λ x. Err x) e)))

-- what is written is the bundle of the files
pub WritesPackedBundle-written : (contents : Option (List FileText)) (certified : Bool)
    (items texts : List PartText)
    (old new : Option (List ℕ)) (r : Result (Unit {0}) PackFault)
    → ((files : List FileText) → contents ≡ Some files → parts_before_limits certified files ≡ Ok items)
    → texts ≡ items → OnOk r (AppendsBundle old new texts)
    → IfOk r (λ _. IfSome contents (λ files. WritesPackedBundle certified files old new))
WritesPackedBundle-written None certified items texts old new (Ok x) read same ok = tt
WritesPackedBundle-written None certified items texts old new (Err f) read same ok = tt
WritesPackedBundle-written (Some files) certified items texts old new (Ok x) read same ok = (
  items,
  IsPacked-within_limits files certified items (read files refl) (subst AreWithinLimits same ok.1.limits),
  subst (λ (ps : List PartText). AppendsBundle old new ps) same ok,
)
WritesPackedBundle-written (Some files) certified items texts old new (Err f) read same ok = tt

-- and what a failed write leaves is a part of it, from its front
pub WritesPackedPrefix-cut : (contents : Option (List FileText)) (certified : Bool)
    (items texts : List PartText)
    (old new : Option (List ℕ))
    → ((files : List FileText) → contents ≡ Some files → parts_before_limits certified files ≡ Ok items)
    → texts ≡ items → AreWithinLimits texts → AppendsProperPrefix old new (bundle_spelling texts)
    → IfSome contents (λ files. WritesPackedPrefix certified files old new)
WritesPackedPrefix-cut None certified items texts old new read same limits cut = tt
WritesPackedPrefix-cut (Some files) certified items texts old new read same limits cut = (
  items,
  IsPacked-within_limits files certified items (read files refl) (subst AreWithinLimits same limits),
  subst (λ (ps : List PartText). AppendsProperPrefix old new (bundle_spelling ps)) same cut,
)
