-- The domain that consists of what was kept of files is the one that the files mean.
use Rattle.std.specs.Prelude.{◌≡◌, ℕ, List, Option, Some, None, Result, Ok, Err, IfErr, IfSome, MatchResult}
use Rattle.std.specs.Prelude.{refl}
use Rattle.std.proofs.Common.{◌∙◌, ap, sym, subst}
use Rattle.mc_text.specs.Steps.{map_fault}
use Rattle.mc_topology.specs.Topology.{TopologyValue}
use Rattle.mc_files.specs.Files.{FileText}
use Rattle.mc_files.specs.Layout.{topology_slot}
use Rattle.mc_forward.specs.Domains.{DomainValue, IsDomain}
use Rattle.mc_input.specs.FilesInput.{FilesDenoteInput}
use Rattle.mc_input.specs.FilesReading.{input_of_files, files_as_source}
use Rattle.mc_input.specs.Input.{InputValue}
use Rattle.mc_input.specs.Kept.{IsDomainOf}
use Rattle.mc_input.specs.ExcludedRouters.{AreRouterNames, IsReadOrMemoryWithout, files_with_exclusions}
use Rattle.mc_input.specs.ExcludedRouters.{input_of_files_without, input_of_other_files}
use Rattle.mc_input.specs.Meaning.{FilesMeanDomain}
use Rattle.mc_input.specs.PartsReading.{read_part, topology_of}
use Rattle.mc_input.specs.ReadAsMeant.{AreFilesReadAsMeant}
use Rattle.mc_input.specs.declared.exclusion_fault.ExclusionFault.{ExclusionFault}
use Rattle.mc_input.specs.declared.exclusion_fault.ExclusionFault.TheVariants.{Source, NoSuchRouter}
use Rattle.mc_input.specs.declared.source_fault.SourceFault.TheVariants.{Input}
use Rattle.mc_input.proofs.FilesDenoteInputLemmas.{input_of_files-Ok, FilesDenoteInput-from_input_of_files}
use Rattle.mc_input.proofs.ExcludedLemmas.{input_of_files-with_exclusions, input_of_files_without-names_Ok}
use Rattle.mc_input.proofs.ExcludedLemmas.{check_router_names-Ok, read_part-same_topology_file}
use Rattle.mc_input.proofs.ExcludedLemmas.{IsSameFile-topology_slot}
use Rattle.mc_input.proofs.HasNoVifOrRowLemmas.{read_input-topology}
use Rattle.mc_input.proofs.MeansLemmas.{Means-from_denotes, IsReadOrMemory-by_contradiction}

-- ---- if the files are known

-- what holds of them whenever they are known, as a fact of optional files,
pub IfSome-from_known : (P : List FileText → Type 0) (o : Option (List FileText))
    → ((files : List FileText) → o ≡ Some files → P files) → IfSome o P
IfSome-from_known P None holds = tt
IfSome-from_known P (Some files) holds = holds files refl

-- and such a fact where they are known
IfSome-at_known : (P : List FileText → Type 0) (o : Option (List FileText)) (files : List FileText)
    → IfSome o P → o ≡ Some files → P files
IfSome-at_known P o files holds known = subst (λ (o : Option (List FileText)). IfSome o P) known holds

-- ---- the domain

-- the domain that consists of what was kept of a folder's files with routers excluded is the one that they
-- mean
pub FilesMeanDomain-from_other_files : (names : List (List ℕ)) (files : List FileText) (t : TopologyValue)
    (d : DomainValue) → read_part Input (files_as_source files 0 topology_slot) topology_of ≡ Ok t
    → (v : InputValue) × (input_of_other_files t names files ≡ Ok v) × IsDomainOf d v → IsDomain d
    → FilesMeanDomain (files_with_exclusions names files) d
FilesMeanDomain-from_other_files names files t d topology read rules =
    let whole = files_with_exclusions names files in
    Means-from_denotes FilesDenoteInput whole read.0 d
    (FilesDenoteInput-from_input_of_files whole read.0 (input_of_files-with_exclusions names files t
    topology ∙ read.1)) read.2 rules

-- files that mean a domain with routers excluded, each of them one of its topology, are read
input_of_files_without-Ok : (names : List (List ℕ)) (files : List FileText) (d : DomainValue)
    → FilesMeanDomain (files_with_exclusions names files) d → AreRouterNames d.topology names
    → (v : InputValue) × (input_of_files_without names files ≡ Ok v)
input_of_files_without-Ok names files d means are =
    let v = means.input in
    let whole = files_with_exclusions names files in
    let read : input_of_files whole ≡ Ok v = input_of_files-Ok whole v means.denotes in
    let topology = sym (read_part-same_topology_file whole files 0 (IsSameFile-topology_slot names files))
    ∙ read_input-topology (files_as_source whole) v read in
    let named = check_router_names-Ok v.topology 1 names
    (subst (λ (t : TopologyValue). AreRouterNames t names) means.assembled.topology are) in
    (v, input_of_files_without-names_Ok names files v.topology tt topology named ∙ ap (map_fault Source) read)

-- so they are not refused
input_of_files_without-not_Err : (names : List (List ℕ)) (files : List FileText) (d : DomainValue)
    (fault : ExclusionFault) → FilesMeanDomain (files_with_exclusions names files) d
    → AreRouterNames d.topology names → input_of_files_without names files ≡ Err fault → ⊥
input_of_files_without-not_Err names files d fault means are refused =
    let read = input_of_files_without-Ok names files d means are in
    absurd_of {v = read.0} (sym read.1 ∙ refused)
  where
    absurd_of : {v : InputValue} {fault : ExclusionFault}
        → (let r : Result InputValue ExclusionFault = Ok v in r) ≡ Err fault → ⊥
    absurd_of e = cc

-- a fault that isn't one of the files is silent
IsReadOrMemoryWithout-by_contradiction : (own : ExclusionFault) (P : Type 0)
    → (¬ IsReadOrMemoryWithout own → P) → (P → ⊥) → IsReadOrMemoryWithout own
IsReadOrMemoryWithout-by_contradiction (Source fault) P loud none =
    IsReadOrMemory-by_contradiction fault P loud none
IsReadOrMemoryWithout-by_contradiction (NoSuchRouter n) P loud none = none (loud (λ silent. silent))

-- ---- a fault

-- the fault is the first one of the files with routers excluded, if it says something of them
abbrev pub IsFirstFault : (names : List (List ℕ)) → ExclusionFault → List FileText → Type 0
IsFirstFault names fault files =
    ¬ IsReadOrMemoryWithout fault → input_of_files_without names files ≡ Err fault

-- the fault of files that mean a domain is none of theirs
pub AreFilesReadAsMeant-from_fault : {X : Type 0} (d : X → DomainValue) (names : List (List ℕ))
    (o : Option (List FileText)) (r : Result X ExclusionFault) (fault : ExclusionFault) → r ≡ Err fault
    → IfErr r (λ fault. IfSome o (IsFirstFault names fault)) → AreFilesReadAsMeant o names d r
AreFilesReadAsMeant-from_fault {X = X} d names o r fault is refused files domain known means are =
    let first = subst (λ (r : Result X ExclusionFault).
    IfErr r (λ fault. IfSome o (IsFirstFault names fault))) is refused in
    subst (λ (r : Result X ExclusionFault). MatchResult r (λ x. d x ≡ domain) IsReadOrMemoryWithout) (sym is)
    (IsReadOrMemoryWithout-by_contradiction fault (input_of_files_without names files ≡ Err fault)
    (IfSome-at_known (IsFirstFault names fault) o files first known)
    (input_of_files_without-not_Err names files domain fault means are))
