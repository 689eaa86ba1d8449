-- Which files of a folder are refused, each judged by itself (docs/FORMATS.md, the section "The program": the
-- lines after `refused` of an audit).
use Rattle.std.specs.Prelude.{◌≡◌, ℕ, ◌+◌, max, min, Bool, false, List, [], ◌∷◌, ◌++◌, filter, flat_map, map}
use Rattle.std.specs.Prelude.{◌≢◌, is_some, Option, Some, None, Result, Ok, Err, ◌⊎◌, ⊤}
use Rattle.std.specs.Prelude.{if◌then◌else◌, string_bytes}
use Rattle.std.specs.List.{AllByRecursion, list_any}
use Rattle.std.specs.Result.{result_err}
use Rattle.std.specs.Str.{bytes_eq}
use Rattle.mc_bundle.specs.Bundle.{PartText}
use Rattle.mc_topology.specs.SectionRows.{RouterRow}
use Rattle.mc_topology.specs.Topology.{TopologyValue}
use Rattle.mc_files.specs.Files.{FileText, file_named}
use Rattle.mc_files.specs.Layout.{Slot, cache_slot, file_name, reports_slot, topology_slot, vif_slot}
use Rattle.mc_forward.specs.ListedTables.{Pairwise}
use Rattle.mc_input.specs.FilesReading.{read_file, topology_of_files}
use Rattle.mc_input.specs.PartsReading.{cache_of, reports_of, vifs_of}
use Rattle.mc_input.specs.SourceFault.{is_read}
use Rattle.mc_input.specs.declared.refused_file.RefusedFile.{RefusedFile}
use Rattle.mc_input.specs.declared.refused_file.Refusal.{Refusal}
use Rattle.mc_input.specs.declared.refused_file.Refusal.TheVariants.{Unread, Fault}
use Rattle.mc_input.specs.declared.fault.InputFault.{InputFault}
use Rattle.mc_input.specs.declared.fault.InputFault.TheVariants.{Memory}
use Rattle.mc_input.specs.declared.source_fault.SourceFault.{SourceFault}
use Rattle.mc_input.specs.declared.source_fault.SourceFault.TheVariants.{Input, Read}

-- A file by its name, and its first fault, if it has one: `Read` where there is no such file.
pub record JudgedFile : Type 0 where
  pub name : List ℕ
  pub fault : Option SourceFault

-- ---- each file's own fault

-- the first fault of a slot's file
abbrev pub file_fault : {X : Type 0} → List FileText → Slot → (PartText → Result X InputFault)
    → Option SourceFault
file_fault files slot read = result_err (read_file slot read files)

-- a slot's file with its fault
abbrev pub judged_file : {X : Type 0} → List FileText → Slot → (PartText → Result X InputFault)
    → JudgedFile
judged_file files slot read = record { name = file_name slot; fault = file_fault files slot read }

-- the files of a router's two tables; none if the router is excluded
abbrev pub judged_tables : (names : List (List ℕ)) → List FileText → RouterRow → List JudgedFile
judged_tables names files row =
    if list_any (λ name. bytes_eq name row.name) names then []
    else judged_file files (vif_slot row.name) vifs_of
    ∷ judged_file files (cache_slot row.name) (cache_of row.order) ∷ []

-- the file of a LAN's reports
abbrev pub judged_reports : List FileText → (lan : List ℕ) → JudgedFile
judged_reports files lan = judged_file files (reports_slot lan) reports_of

-- the files of the tables of all routers that aren't excluded
abbrev pub judged_routers : (names : List (List ℕ)) → TopologyValue → List FileText → List JudgedFile
judged_routers names topology files = flat_map (judged_tables names files) topology.routers

-- the files of all LANs' reports
abbrev pub judged_lans : TopologyValue → List FileText → List JudgedFile
judged_lans topology files = map (judged_reports files) topology.lans

-- all files that a topology names, or the topology's own alone if that is refused
abbrev pub judged_with_topology : (names : List (List ℕ)) → List FileText → Result TopologyValue SourceFault
    → List JudgedFile
judged_with_topology names files (Err fault) =
    (record { name = file_name topology_slot; fault = Some fault }) ∷ []
judged_with_topology names files (Ok t) = judged_routers names t files ++ judged_lans t files

-- all files that this topology names
abbrev pub judged_files_of : (names : List (List ℕ)) → TopologyValue → List FileText → List JudgedFile
judged_files_of names topology files = judged_with_topology names files (Ok topology)

-- the files of a folder, in the order of a domain's slots
abbrev pub judged_files : (names : List (List ℕ)) → List FileText → List JudgedFile
judged_files names files = judged_with_topology names files (topology_of_files files)

-- the files that have a fault
abbrev pub files_with_fault : List JudgedFile → List JudgedFile
files_with_fault files = filter (λ file. is_some file.fault) files

-- The refused files of a folder, where the routers of these names are excluded. A name that no router has
-- excludes nothing.
abbrev pub refused_files_of : (names : List (List ℕ)) → List FileText → List JudgedFile
refused_files_of names files = files_with_fault (judged_files names files)

-- ---- the faults with a source that may fail

-- The fault that was given is the file's own, or that the source failed.
abbrev pub IsOwnFaultOrRead : (given own : Option SourceFault) → Type 0
IsOwnFaultOrRead (Some Read) own = ⊤
IsOwnFaultOrRead (Some (Input fault)) own = own ≡ Some (Input fault)
IsOwnFaultOrRead None own = own ≡ None

-- Unless memory ran out, the fault that was given is the file's own, or that the source failed.
abbrev pub IsOwnFaultUnlessMemory : (given own : Option SourceFault) → Type 0
IsOwnFaultUnlessMemory given own = given ≢ Some (Input Memory) → IsOwnFaultOrRead given own

-- The file that was given has its own fault, or the source failed at it.
pub record IsSameFileOrUnread (own given : JudgedFile) : Type 0 where
  pub name : given.name ≡ own.name
  pub fault : IsOwnFaultOrRead given.fault own.fault

-- the topology's file, where the source failed at it
abbrev pub unread_topology : JudgedFile
unread_topology = record { name = file_name topology_slot; fault = Some Read }

-- Each file that was given has its own fault, or the source failed at it. If it failed at the topology, that
-- is the only file.
abbrev pub AreSameFilesOrUnread : (names : List (List ℕ)) → List FileText → (given : List JudgedFile) → Type 0
AreSameFilesOrUnread names files given =
    (given ≡ unread_topology ∷ []) ⊎ Pairwise IsSameFileOrUnread (judged_files names files) given

-- The list holds exactly the files that have a fault as they were given.
abbrev pub AreRefusedFiles : (names : List (List ℕ)) → List FileText → (listed : List JudgedFile) → Type 0
AreRefusedFiles names files listed =
    (given : List JudgedFile) × AreSameFilesOrUnread names files given × (listed ≡ files_with_fault given)

-- The files that are listed as unread don't exist.
abbrev pub AreUnreadFilesMissing : List FileText → (listed : List JudgedFile) → Type 0
AreUnreadFilesMissing files listed =
    AllByRecursion (λ file. file.fault ≡ Some Read → file_named files file.name ≡ None) listed

-- If the files that are listed as unread don't exist, the list holds exactly the refused files.
abbrev pub AreExactlyRefusedFiles : (names : List (List ℕ)) → List FileText → (listed : List JudgedFile)
    → Type 0
AreExactlyRefusedFiles names files listed =
    AreUnreadFilesMissing files listed → listed ≡ refused_files_of names files

-- ---- the list that the code makes

-- the fault for which a file is refused
abbrev pub fault_of_refusal : Refusal → SourceFault
fault_of_refusal (Unread unread) = Read
fault_of_refusal (Fault fault) = Input fault

-- a refused file as a judged one: its name and its fault
abbrev pub as_judged_file : RefusedFile → JudgedFile
as_judged_file file = record { name = string_bytes file.name; fault = Some (fault_of_refusal file.refusal) }

-- whether the source failed at the file
abbrev pub is_unread : Option SourceFault → Bool
is_unread None = false
is_unread (Some fault) = is_read fault

-- the number of a source's failures after some more of them, which stops at the greatest u64
abbrev pub saturating_failures : (more before : ℕ) → ℕ
saturating_failures more before = max before (min (before + more) 18446744073709551615)

-- how often the source failed at a file with this fault: once or never
abbrev pub failure_count : Option SourceFault → ℕ
failure_count fault = if is_unread fault then 1 else 0

-- at how many of the files the source failed
abbrev pub unread_count : List JudgedFile → ℕ
unread_count [] = 0
unread_count (file ∷ files) = failure_count file.fault + unread_count files

-- The files were judged as a source gave them: the list has grown by those that have a fault, and the
-- source's number of failures by those at which it failed.
pub record JudgesFiles (contents : Option (List FileText)) (files : List FileText → List JudgedFile)
    (old new : List JudgedFile) (before after : ℕ) : Type 0 where
  pub given : List JudgedFile
  pub listed : new ≡ old ++ files_with_fault given
  pub failures : after ≡ saturating_failures (unread_count given) before
  pub each : (known : List FileText) → contents ≡ Some known → Pairwise IsSameFileOrUnread (files known) given

-- The files were judged as a source gave them, where the list holds for each refused file the reason why it
-- is refused.
abbrev pub ListsRefused : (contents : Option (List FileText)) → (List FileText → List JudgedFile)
    → (old new : List RefusedFile) → (before after : ℕ) → Type 0
ListsRefused contents files old new before after =
    JudgesFiles contents files (map as_judged_file old) (map as_judged_file new) before after
