-- The files that are listed are the refused ones of the folder.
use Rattle.std.specs.Prelude.{◌≡◌, ◌≢◌, ℕ, ◌+◌, Bool, true, false, List, [], ◌∷◌, ◌++◌}
use Rattle.std.specs.Prelude.{flat_map, map, Option, Some, None, Result, Ok, Err, refl}
use Rattle.std.specs.Prelude.{if◌then◌else◌}
use Rattle.std.proofs.Common.{ap, arith, inl, inr, sym, subst, ◌∙◌}
use Rattle.std.specs.List.{AllByRecursion, list_any}
use Rattle.std.specs.Result.{result_err}
use Rattle.std.specs.Str.{bytes_eq}
use Rattle.mc_bundle.specs.Bundle.{PartText}
use Rattle.mc_topology.specs.SectionRows.{RouterRow}
use Rattle.mc_topology.specs.Topology.{TopologyValue}
use Rattle.mc_files.specs.Files.{FileText, file_named}
use Rattle.mc_files.specs.Layout.{Slot, cache_slot, file_name, reports_slot, topology_slot, vif_slot}
use Rattle.mc_forward.specs.ListedTables.{Pairwise}
use Rattle.mc_input.specs.FilesReading.{files_as_source}
use Rattle.mc_input.specs.PartsReading.{cache_of, reports_of, read_part, topology_of, vifs_of}
use Rattle.mc_input.specs.RefusedFiles.{AreSameFilesOrUnread, AreUnreadFilesMissing}
use Rattle.mc_input.specs.RefusedFiles.{AreRefusedFiles, IsSameFileOrUnread}
use Rattle.mc_input.specs.RefusedFiles.{JudgedFile, JudgesFiles, saturating_failures, failure_count}
use Rattle.mc_input.specs.RefusedFiles.{judged_file, judged_with_topology, judged_files}
use Rattle.mc_input.specs.RefusedFiles.{judged_reports, judged_tables}
use Rattle.mc_input.specs.RefusedFiles.{files_with_fault, refused_files_of, unread_count, unread_topology}
use Rattle.mc_input.specs.SourceFault.{IsReadOrMemory}
use Rattle.mc_input.specs.declared.fault.InputFault.{InputFault}
use Rattle.mc_input.specs.declared.fault.InputFault.TheVariants.{Memory}
use Rattle.mc_input.specs.declared.source_fault.SourceFault.{SourceFault}
use Rattle.mc_input.specs.declared.source_fault.SourceFault.TheVariants.{Input, Read}
use Rattle.mc_input.proofs.FileFaultLemmas.{not_IsReadOrMemory-from_fault}
use Rattle.mc_input.proofs.JudgedFilesLemmas.{AllByRecursion-append, JudgesFiles-same_source, unread_count-files_with_fault}

-- a file that doesn't exist is unread
abbrev IsReadOnlyIfMissing : List FileText → JudgedFile → Type 0
IsReadOnlyIfMissing files file = file_named files file.name ≡ None → file.fault ≡ Some Read

-- so it is of one slot's file,
IsReadOnlyIfMissing-one : {X : Type 0} (files : List FileText) (slot : Slot)
    (read : PartText → Result X InputFault) → IsReadOnlyIfMissing files (judged_file files slot read)
IsReadOnlyIfMissing-one files slot read none = rw (none) refl

-- of a router's two files,
IsReadOnlyIfMissing-tables : (names : List (List ℕ)) (files : List FileText) (r : RouterRow)
    → AllByRecursion (IsReadOnlyIfMissing files) (judged_tables names files r)
IsReadOnlyIfMissing-tables names files r = by (list_any (λ name. bytes_eq name r.name) names)
  where
    by : (out : Bool) → AllByRecursion (IsReadOnlyIfMissing files)
        (if out then [] else judged_file files (vif_slot r.name) vifs_of
        ∷ judged_file files (cache_slot r.name) (cache_of r.order) ∷ [])
    by true = tt
    by false = (
      IsReadOnlyIfMissing-one files (vif_slot r.name) vifs_of,
      (IsReadOnlyIfMissing-one files (cache_slot r.name) (cache_of r.order), tt),
    )

-- of those of all routers,
IsReadOnlyIfMissing-routers : (names : List (List ℕ)) (files : List FileText) (rs : List RouterRow)
    → AllByRecursion (IsReadOnlyIfMissing files) (flat_map (judged_tables names files) rs)
IsReadOnlyIfMissing-routers names files [] = tt
IsReadOnlyIfMissing-routers names files (r ∷ rs) =
    AllByRecursion-append (IsReadOnlyIfMissing files) (judged_tables names files r)
    (flat_map (judged_tables names files) rs)
    (IsReadOnlyIfMissing-tables names files r) (IsReadOnlyIfMissing-routers names files rs)

-- and of those of all LANs
IsReadOnlyIfMissing-lans : (files : List FileText) (lans : List (List ℕ))
    → AllByRecursion (IsReadOnlyIfMissing files) (map (judged_reports files) lans)
IsReadOnlyIfMissing-lans files [] = tt
IsReadOnlyIfMissing-lans files (lan ∷ lans) = (
  IsReadOnlyIfMissing-one files (reports_slot lan) reports_of,
  IsReadOnlyIfMissing-lans files lans,
)

-- one file that isn't listed as unread although it exists
same_file-from_missing : (files : List FileText) (own : JudgedFile) (name : List ℕ)
    (fault : Option SourceFault)
    → IsSameFileOrUnread own (record { name = name; fault = fault }) → IsReadOnlyIfMissing files own
    → (fault ≡ Some Read → file_named files name ≡ None)
    → (let given : JudgedFile = record { name = name; fault = fault } in given) ≡ own
same_file-from_missing files own name None given honest missing =
    λ i. record { name = given.name i; fault = sym given.fault i }
same_file-from_missing files own name (Some (Input fault)) given honest missing =
    λ i. record { name = given.name i; fault = sym given.fault i }
same_file-from_missing files own name (Some Read) given honest missing =
    let none = ap (file_named files) (sym given.name) ∙ missing refl in
    λ i. record { name = given.name i; fault = sym (honest none) i }

-- and all such files
same_files-from_missing : (files : List FileText) (own given : List JudgedFile)
    → Pairwise IsSameFileOrUnread own given → AllByRecursion (IsReadOnlyIfMissing files) own
    → AreUnreadFilesMissing files (files_with_fault given) → given ≡ own
same_files-from_missing files [] [] are honest missing = refl
same_files-from_missing files [] (g ∷ given) are honest missing = absurd are
same_files-from_missing files (o ∷ own) [] are honest missing = absurd are
same_files-from_missing files (o ∷ own) (g ∷ given) are honest missing =
    by g.name g.fault are.0 missing (λ left. same_files-from_missing files own given are.1 honest.1 left)
  where
    by : (name : List ℕ) (fault : Option SourceFault)
        → IsSameFileOrUnread o (record { name = name; fault = fault })
        → AreUnreadFilesMissing files (files_with_fault ((record { name = name; fault = fault }) ∷ given))
        → (AreUnreadFilesMissing files (files_with_fault given) → given ≡ own)
        → (let g : JudgedFile = record { name = name; fault = fault } in g ∷ given) ≡ o ∷ own
    by name None is missing rest =
        ap (λ f. f ∷ given) (same_file-from_missing files o name None is honest.0 (λ e. absurd cc))
        ∙ ap (λ fs. o ∷ fs) (rest missing)
    by name (Some fault) is missing rest =
        ap (λ f. f ∷ given) (same_file-from_missing files o name (Some fault) is honest.0 missing.0)
        ∙ ap (λ fs. o ∷ fs) (rest missing.1)

-- If the source fails at no existing file, the refused files are listed.
pub refused_files_of-exact : (names : List (List ℕ)) (files : List FileText) (listed : List JudgedFile)
    → AreRefusedFiles names files listed → AreUnreadFilesMissing files listed
    → listed ≡ refused_files_of names files
refused_files_of-exact names files listed (given, are, is) missing =
    is ∙ ap files_with_fault (by are)
  where
    missing_given : AreUnreadFilesMissing files (files_with_fault given)
    missing_given = subst (AreUnreadFilesMissing files) is missing

    by : AreSameFilesOrUnread names files given → given ≡ judged_files names files
    by (inl alone) =
        let none =
        (subst (λ fs. AreUnreadFilesMissing files (files_with_fault fs)) alone missing_given).0 refl in
        alone ∙ unread none
      where
        unread : file_named files (file_name topology_slot) ≡ None
            → unread_topology ∷ [] ≡ judged_files names files
        unread none = rw (none) refl
    by (inr each) = honest_by (read_part Input (files_as_source files 0 topology_slot) topology_of) refl each
      where
        honest_by : (t : Result TopologyValue SourceFault)
            → read_part Input (files_as_source files 0 topology_slot) topology_of ≡ t
            → Pairwise IsSameFileOrUnread (judged_with_topology names files t) given
            → given ≡ judged_with_topology names files t
        honest_by (Ok t) is each =
            same_files-from_missing files (judged_with_topology names files (Ok t)) given each
            (AllByRecursion-append (IsReadOnlyIfMissing files)
            (flat_map (judged_tables names files) t.routers)
            (map (judged_reports files) t.lans) (IsReadOnlyIfMissing-routers names files t.routers)
            (IsReadOnlyIfMissing-lans files t.lans)) missing_given
        honest_by (Err fault) is each =
            same_files-from_missing files (judged_with_topology names files (Err fault)) given each (
              (λ none. ap result_err (sym is) ∙ IsReadOnlyIfMissing-one files topology_slot topology_of none),
              tt,
            )
            missing_given

module _ (names : List (List ℕ)) (files : List FileText) (contents : Option (List FileText))
    (is : contents ≡ Some files) where
  -- for all files that a topology names
  pub AreRefusedFiles-with_topology : (t : TopologyValue) (new : List JudgedFile) (before after : ℕ)
      → read_part Input (files_as_source files 0 topology_slot) topology_of ≡ Ok t
      → JudgesFiles contents (λ known. judged_with_topology names known (Ok t)) [] new before after
      → AreRefusedFiles names files new
  AreRefusedFiles-with_topology t new before after read judges = (
    judges.given,
    inr (subst (λ (r : Result TopologyValue SourceFault).
        Pairwise IsSameFileOrUnread (judged_with_topology names files r) judges.given)
        (sym read) (judges.each files is)),
    judges.listed,
  )

  -- for a refused topology
  pub AreRefusedFiles-topology_alone : (fault : SourceFault) (new : List JudgedFile)
      → ((¬ IsReadOrMemory fault)
      → read_part Input (files_as_source files 0 topology_slot) topology_of ≡ Err fault)
      → (let own : Option SourceFault = Some fault in own) ≢ Some (Input Memory)
      → new ≡ files_with_fault ((record { name = file_name topology_slot; fault = Some fault }) ∷ [])
      → AreRefusedFiles names files new
  AreRefusedFiles-topology_alone Read new read loud listed = (unread_topology ∷ [], inl refl, listed)
  AreRefusedFiles-topology_alone (Input fault) new read loud listed =
      let alone : List JudgedFile =
      (record { name = file_name topology_slot; fault = Some (Input fault) }) ∷ [] in (
        alone,
        inr (subst (λ (r : Result TopologyValue SourceFault).
            Pairwise IsSameFileOrUnread (judged_with_topology names files r) alone)
            (sym (read (not_IsReadOrMemory-from_fault fault loud)))
            (record { name = refl; fault = refl }, tt)),
        listed,
      )

-- the same from an empty list on, with a source of the same contents
pub AreRefusedFiles-with_topology_of_source : (names : List (List ℕ)) (files : List FileText)
    (contents other : Option (List FileText))
    (t : TopologyValue) (old new : List JudgedFile) (before after : ℕ)
    → contents ≡ Some files → other ≡ contents → old ≡ []
    → read_part Input (files_as_source files 0 topology_slot) topology_of ≡ Ok t
    → JudgesFiles other (λ known. judged_with_topology names known (Ok t)) old new before after
    → AreRefusedFiles names files new
AreRefusedFiles-with_topology_of_source names files contents other t old new before after is same
    none read judges =
    AreRefusedFiles-with_topology names files contents is t new before after read
    (subst (λ (l : List JudgedFile).
    JudgesFiles contents (λ known. judged_with_topology names known (Ok t)) l new before after)
    none
    (JudgesFiles-same_source contents other (λ known. judged_with_topology names known (Ok t))
    old new before after same judges))

pub AreRefusedFiles-topology_alone_of_source : (names : List (List ℕ)) (files : List FileText)
    (contents : Option (List FileText)) (fault : SourceFault) (pushed : Slot) (old new : List JudgedFile)
    → contents ≡ Some files → pushed ≡ topology_slot → old ≡ []
    → ((¬ IsReadOrMemory fault)
    → read_part Input (files_as_source files 0 topology_slot) topology_of ≡ Err fault)
    → new ≡ old ++ files_with_fault ((record { name = file_name pushed; fault = Some fault }) ∷ [])
    → (let own : Option SourceFault = Some fault in own) ≢ Some (Input Memory)
    → AreRefusedFiles names files new
AreRefusedFiles-topology_alone_of_source names files contents fault pushed old new is of_slot none
    read listed loud =
    AreRefusedFiles-topology_alone names files contents is fault new read loud
    (listed
    ∙ ap (λ (l : List JudgedFile).
    l ++ files_with_fault ((record { name = file_name pushed; fault = Some fault }) ∷ []))
    none
    ∙ ap (λ (s : Slot). files_with_fault ((record { name = file_name s; fault = Some fault }) ∷ [])) of_slot)

-- the source failed at the files that are listed as unread
pub saturating_failures-with_topology : (contents : Option (List FileText))
    (files : List FileText → List JudgedFile)
    (old new : List JudgedFile) (first before after : ℕ) → old ≡ [] → before ≡ saturating_failures 0 first
    → JudgesFiles contents files old new before after → after ≡ saturating_failures (unread_count new) first
saturating_failures-with_topology contents files old new first before after none same judges =
    let listed : new ≡ files_with_fault judges.given =
    judges.listed ∙ ap (λ (l : List JudgedFile). l ++ files_with_fault judges.given) none in
    let count : unread_count new ≡ unread_count judges.given =
    ap unread_count listed ∙ unread_count-files_with_fault judges.given in
    omega (arith, judges.failures, same, count)

pub saturating_failures-topology_alone : (fault : SourceFault) (pushed : Slot) (old new : List JudgedFile)
    (before after : ℕ) → old ≡ [] → after ≡ saturating_failures (failure_count (Some fault)) before
    → new ≡ old ++ files_with_fault ((record { name = file_name pushed; fault = Some fault }) ∷ [])
    → after ≡ saturating_failures (unread_count new) before
saturating_failures-topology_alone fault pushed old new before after none is listed =
    let count : unread_count new ≡ failure_count (Some fault) + 0 =
    ap unread_count (listed ∙ ap (λ (l : List JudgedFile). l
    ++ files_with_fault ((record { name = file_name pushed; fault = Some fault }) ∷ [])) none) in
    omega (arith, is, count)
