-- Routers that `--without` excludes from a domain (docs/FORMATS.md, the section "The program"): their files
-- are read as those of a kernel that shows no vif and no row, whatever the folder has.
use Rattle.std.specs.Prelude.{◌≡◌, ℕ, ◌+◌, min, Bool, true, false, IsTrue, List, [], ◌∷◌, ◌++◌, codes}
use Rattle.std.specs.Prelude.{Contains, flat_map, map, option_map, Option, None, Some, Result, Ok, Err}
use Rattle.std.specs.Prelude.{if◌then◌else◌, slice_get}
use denote.Ref.{Bor}
use Rattle.std.specs.List.{AllByRecursion, list_any}
use Rattle.std.specs.Str.{bytes_eq}
use Rattle.mc_text.specs.Steps.{◌>>=◌, map_fault}
use Rattle.mc_topology.specs.Lookup.{has_router}
use Rattle.mc_topology.specs.SectionRows.{RouterRow}
use Rattle.mc_topology.specs.Topology.{TopologyValue}
use Rattle.mc_files.specs.Files.{FileText}
use Rattle.mc_files.specs.Layout.{cache_slot, file_name, vif_slot}
use Rattle.mc_theory.specs.Nets.Row.{NoRow}
use Rattle.mc_theory.specs.ExcludedRouters.{ExcludesRouters}
use Rattle.mc_forward.specs.Domains.{DomainValue, net_of, placed_of, row_of, vif_of}
use Rattle.mc_input.specs.FilesReading.{input_of_files, files_as_source, topology_of_files}
use Rattle.mc_input.specs.Input.{InputValue}
use Rattle.mc_input.specs.PartsReading.{read_tables_and_reports}
use Rattle.mc_input.specs.SourceFault.{IsReadOrMemory, is_possible_for_files, is_read}
use Rattle.mc_input.specs.declared.source_fault.SourceFault.{SourceFault}
use Rattle.mc_input.specs.declared.source_fault.SourceFault.TheVariants.{Input}
use Rattle.mc_input.specs.declared.exclusion_fault.ExclusionFault.{ExclusionFault}
use Rattle.mc_input.specs.declared.exclusion_fault.ExclusionFault.TheVariants.{Source, NoSuchRouter}

-- ---- the files

-- the header line of a kernel's vif table (ipmr_vif_seq_show in net/ipv4/ipmr.c), with its line feed
abbrev pub vif_header : List ℕ
vif_header =
    codes "Interface      BytesIn  PktsIn  BytesOut PktsOut Flags Local    Remote" ++ 10 ∷ []

-- the header line of a kernel's cache (ipmr_mfc_seq_show in net/ipv4/ipmr.c), with its line feed
abbrev pub cache_header : List ℕ
cache_header = codes "Group    Origin   Iif     Pkts    Bytes    Wrong Oifs" ++ 10 ∷ []

-- the two files of a router, each with its header alone
abbrev pub header_only_files : (router : List ℕ) → List FileText
header_only_files router =
    (record { name = file_name (vif_slot router); bytes = vif_header })
    ∷ (record { name = file_name (cache_slot router); bytes = cache_header }) ∷ []

-- the header of a router's table, of vifs where `vifs` is true and otherwise of its cache, if the router's
-- name is one of `names`
abbrev pub header_of_excluded : (names : List (List ℕ)) → (router : List ℕ) → (vifs : Bool) → Option (List ℕ)
header_of_excluded names router vifs =
    if list_any (λ name. bytes_eq name router) names
    then Some (if vifs then vif_header else cache_header) else None

-- the names that are borrowed
abbrev pub names_of : List (Bor (List ℕ)) → List (List ℕ)
names_of names = map (λ name. name.now) names

-- The files of the routers with these names, each with its header alone, and then the folder's: of two files
-- with one name the first is read.
abbrev pub files_with_exclusions : (names : List (List ℕ)) → List FileText → List FileText
files_with_exclusions names files = flat_map header_only_files names ++ files

-- the files as they are read without the routers of these names, which are borrowed
abbrev pub files_without : (names : List (Bor (List ℕ))) → List FileText → List FileText
files_without names files = files_with_exclusions (names_of names) files

-- ---- the names of excluded routers

-- Each of the names is that of a router.
abbrev pub AreRouterNames : TopologyValue → (names : List (List ℕ)) → Type 0
AreRouterNames topology names = AllByRecursion (λ name. IsTrue (has_router name topology.routers)) names

-- The first of the names that no router has is refused by its place, where the first name has place n. A
-- place past the greatest u32 is reported as that.
abbrev pub check_router_names : TopologyValue → (number : ℕ) → List (List ℕ)
    → Result (Unit {0}) ExclusionFault
check_router_names topology number [] = Ok tt
check_router_names topology number (name ∷ names) =
    if has_router name topology.routers then check_router_names topology (number + 1) names
    else Err (NoSuchRouter (min number 4294967295))

-- whether there is a router and it has one of the names
abbrev pub has_name_among : (names : List (List ℕ)) → Option RouterRow → Bool
has_name_among names None = false
has_name_among names (Some row) = list_any (λ name. bytes_eq name row.name) names

-- whether the router with this number is excluded by its name
abbrev pub is_excluded : TopologyValue → (names : List (List ℕ)) → (router : ℕ) → Bool
is_excluded topology names router = has_name_among names (slice_get topology.routers router)

-- The router with this number has one of the names.
abbrev pub HasExcludedName : (names : List (List ℕ)) → TopologyValue → (router : ℕ) → Type 0
HasExcludedName names topology router =
    (name : List ℕ) × Contains names name
    × (option_map (λ row. row.name) (slice_get topology.routers router) ≡ Some name)

-- ---- the input without the excluded routers

-- the input of this topology and of the other files, with the routers of these names excluded
abbrev pub input_of_other_files : TopologyValue → (names : List (List ℕ)) → List FileText
    → Result InputValue SourceFault
input_of_other_files topology names files =
    read_tables_and_reports Input (files_as_source (files_with_exclusions names files)) topology

-- The input of a folder's files with the routers of these names excluded, or the first fault: that of the
-- topology, that of the names, and then that of the other files.
abbrev pub input_of_files_without : (names : List (List ℕ)) → List FileText → Result InputValue ExclusionFault
input_of_files_without names files =
    map_fault Source (topology_of_files files)
    >>= λ topology. check_router_names topology 1 names
    >>= λ _. map_fault Source (input_of_files (files_with_exclusions names files))

-- The source failed or memory ran out, which says nothing about the files.
abbrev pub IsReadOrMemoryWithout : ExclusionFault → Type 0
IsReadOrMemoryWithout (Source fault) = IsReadOrMemory fault
IsReadOrMemoryWithout (NoSuchRouter number) = ⊥

-- whether the fault is that the source failed, which the source counts
abbrev pub is_read_without : ExclusionFault → Bool
is_read_without (Source fault) = is_read fault
is_read_without (NoSuchRouter number) = false

-- whether a folder's files can have this fault when routers are excluded
abbrev pub is_possible_for_files_without : ExclusionFault → Bool
is_possible_for_files_without (Source fault) = is_possible_for_files fault
is_possible_for_files_without (NoSuchRouter number) = true

-- ---- what is known of an excluded router

-- The router has no vif, so that none is placed on a LAN, and no row for any flow.
pub record HasNoVifOrRow (domain : DomainValue) (router : ℕ) : Type 0 where
  pub vifs : (vif : ℕ) → vif_of domain.vifs router vif ≡ None
  pub placed : (vif : ℕ) → placed_of domain router vif ≡ None
  pub rows : (flow : ℕ) → row_of domain flow router ≡ NoRow

-- For each flow the domain `part` is the domain `whole` without the routers of these names.
abbrev pub ExcludesRoutersPerFlow : (names : List (List ℕ)) → (part whole : DomainValue) → Type 0
ExcludesRoutersPerFlow names part whole =
    (flow : ℕ) → ExcludesRouters (is_excluded whole.topology names) (net_of part flow) (net_of whole flow)
