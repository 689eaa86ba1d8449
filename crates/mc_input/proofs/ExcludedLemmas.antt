-- Reading files with those of some routers excluded.
use Rattle.std.specs.Prelude.{◌≡◌, ℕ, zero, suc, ◌+◌, ◌<◌, min, Bool, true, false, ◌||◌, List, [], ◌∷◌}
use Rattle.std.specs.Prelude.{Option, Some, Result, Ok, Err, Contains, get_or, is_some}
use Rattle.std.specs.Prelude.{length, map, option_map}
use Rattle.std.specs.Prelude.{drop, refl}
use Rattle.std.proofs.Common.{add-one, cond, ap, arith, sym, ◌∙◌}
use Rattle.std.specs.FinMap as map_of
use Rattle.std.specs.List.{find, list_any, position_from}
use Rattle.std.specs.Str.{bytes_eq}
use Rattle.std.proofs.lemmas.Iterator.Adapters.{position_from-zero}
use Rattle.std.proofs.lemmas.Slice.Eq.{bytes_eq-Decides}
use Rattle.mc_text.specs.Steps.{◌>>=◌, map_fault}
use Rattle.mc_text.specs.declared.text.addr.Order.{Order}
use denote.Ref.{Bor}
use Rattle.mc_tables.specs.CacheTable.{table_of}
use Rattle.mc_topology.specs.Lookup.{has_router, router_no_of}
use Rattle.mc_topology.specs.SectionRows.{RouterRow}
use Rattle.mc_topology.specs.Topology.{TopologyValue}
use Rattle.mc_files.specs.FilePart.{file_part, bytes_within_max_part}
use Rattle.mc_files.specs.Files.{FileText, file_named}
use Rattle.mc_files.specs.Layout.{Slot, cache_slot, file_name, part_name, reports_slot, topology_slot}
use Rattle.mc_files.specs.Layout.{vif_slot}
use Rattle.mc_files.specs.Layout.{first_lan_number}
use Rattle.mc_forward.specs.Domains.{TablesValue}
use Rattle.mc_input.specs.FilesReading.{input_of_files, files_as_source}
use Rattle.mc_input.specs.ExcludedRouters.{AreRouterNames, cache_header}
use Rattle.mc_input.specs.ExcludedRouters.{check_router_names, input_of_files_without}
use Rattle.mc_input.specs.ExcludedRouters.{files_with_exclusions, vif_header}
use Rattle.mc_input.specs.PartsReading.{all_reports, read_tables_and_reports}
use Rattle.mc_input.specs.PartsReading.{router_tables, read_part}
use Rattle.mc_input.specs.PartsReading.{topology_of}
use Rattle.mc_input.specs.declared.source_fault.SourceFault.{SourceFault}
use Rattle.mc_input.specs.declared.source_fault.SourceFault.TheVariants.{Input}
use Rattle.mc_input.specs.declared.exclusion_fault.ExclusionFault.{ExclusionFault}
use Rattle.mc_input.specs.declared.exclusion_fault.ExclusionFault.TheVariants.{Source, NoSuchRouter}
use Rattle.mc_input.proofs.ReadingLemmas.{read_input-judged}

-- ---- the files of excluded routers, in front of others

-- the tables that are read from files with a header alone: no vif and no row
abbrev pub empty_tables : TablesValue
empty_tables = record { vifs = map_of.from_entries []; cache = table_of [] }

-- the router's name is one of the excluded ones
abbrev pub is_excluded_name : (names : List (List ℕ)) → List ℕ → Bool
is_excluded_name names router = list_any (λ name. bytes_eq name router) names

-- a slot has the same file in two lists of files
abbrev pub IsSameFile : List FileText → List FileText → Slot → Type 0
IsSameFile files others slot = file_named files (file_name slot) ≡ file_named others (file_name slot)

-- the bytes of a file, if there is one
abbrev file_bytes : Option FileText → Option (List ℕ)
file_bytes file = option_map (λ (file : FileText). file.bytes) file

-- a slot's file is the router's header-only one if it is excluded, and else the folder's,
pub file_named-vif_slot : (names : List (List ℕ)) (files : List FileText) (router : List ℕ)
    → file_named (files_with_exclusions names files) (file_name (vif_slot router))
    ≡ cond (is_excluded_name names router) (Some vif_header) (file_named files (file_name (vif_slot router)))
file_named-vif_slot [] files router = refl
file_named-vif_slot (name ∷ names) files router =
    elim (bytes_eq name router) as (λ b.
    file_bytes (cond b (Some (let f : FileText =
    record { name = file_name (vif_slot name); bytes = vif_header } in f))
    (find (λ file. bytes_eq file.name (file_name (vif_slot router))) (files_with_exclusions names files)))
    ≡ cond (b || is_excluded_name names router) (Some vif_header)
    (file_named files (file_name (vif_slot router)))) [
      | true ↦ refl
      | false ↦ file_named-vif_slot names files router
    ]

-- and so for the cache's file,
pub file_named-cache_slot : (names : List (List ℕ)) (files : List FileText) (router : List ℕ)
    → file_named (files_with_exclusions names files) (file_name (cache_slot router))
    ≡ cond (is_excluded_name names router) (Some cache_header)
    (file_named files (file_name (cache_slot router)))
file_named-cache_slot [] files router = refl
file_named-cache_slot (name ∷ names) files router =
    elim (bytes_eq name router) as (λ b.
    file_bytes (cond b (Some (let f : FileText =
    record { name = file_name (cache_slot name); bytes = cache_header } in f))
    (find (λ file. bytes_eq file.name (file_name (cache_slot router))) (files_with_exclusions names files)))
    ≡ cond (b || is_excluded_name names router) (Some cache_header)
    (file_named files (file_name (cache_slot router)))) [
      | true ↦ refl
      | false ↦ file_named-cache_slot names files router
    ]

-- and every other file is that of the folder
pub IsSameFile-reports_slot : (names : List (List ℕ)) (files : List FileText) (lan : List ℕ)
    → IsSameFile (files_with_exclusions names files) files (reports_slot lan)
IsSameFile-reports_slot [] files lan = refl
IsSameFile-reports_slot (name ∷ names) files lan = IsSameFile-reports_slot names files lan

-- the topology's among them
pub IsSameFile-topology_slot : (names : List (List ℕ)) (files : List FileText)
    → IsSameFile (files_with_exclusions names files) files topology_slot
IsSameFile-topology_slot [] files = refl
IsSameFile-topology_slot (name ∷ names) files = IsSameFile-topology_slot names files

-- ---- one router

-- a router of one of these names
is_excluded_name-at : (names : List (List ℕ)) (name : List ℕ) (k : ℕ) → k < length names
    → get_or names k name ≡ name → is_excluded_name names name ≡ true
is_excluded_name-at [] name k lt is = absurd (omega (arith, lt))
is_excluded_name-at (own ∷ names) name zero lt is =
    ap (λ b. b || is_excluded_name names name) ((bytes_eq-Decides own name).1 is)
is_excluded_name-at (own ∷ names) name (suc k) lt is =
    elim (bytes_eq own name) as (λ b. (b || is_excluded_name names name) ≡ true) [
      | true ↦ refl
      | false ↦ is_excluded_name-at names name k (omega (arith, lt)) is
    ]

-- the same of a name that the list contains
pub is_excluded_name-from_Contains : (names : List (List ℕ)) (name : List ℕ) → Contains names name
    → is_excluded_name names name ≡ true
is_excluded_name-from_Contains names name there = is_excluded_name-at names name there.0 there.1 there.2

-- an excluded router has its header-only files
module _ (names : List (List ℕ)) (files : List FileText) (router : List ℕ) where
  pub file_named-excluded_vif : is_excluded_name names router ≡ true
      → file_named (files_with_exclusions names files) (file_name (vif_slot router)) ≡ Some vif_header
  file_named-excluded_vif is =
      file_named-vif_slot names files router
      ∙ ap (λ b. cond b (Some vif_header) (file_named files (file_name (vif_slot router)))) is

  pub file_named-excluded_cache : is_excluded_name names router ≡ true
      → file_named (files_with_exclusions names files) (file_name (cache_slot router)) ≡ Some cache_header
  file_named-excluded_cache is =
      file_named-cache_slot names files router
      ∙ ap (λ b. cond b (Some cache_header) (file_named files (file_name (cache_slot router)))) is

  -- and those of another router are the folder's
  pub IsSameFile-other_vif : is_excluded_name names router ≡ false
      → IsSameFile (files_with_exclusions names files) files (vif_slot router)
  IsSameFile-other_vif is =
      file_named-vif_slot names files router
      ∙ ap (λ b. cond b (Some vif_header) (file_named files (file_name (vif_slot router)))) is

  pub IsSameFile-other_cache : is_excluded_name names router ≡ false
      → IsSameFile (files_with_exclusions names files) files (cache_slot router)
  IsSameFile-other_cache is =
      file_named-cache_slot names files router
      ∙ ap (λ b. cond b (Some cache_header) (file_named files (file_name (cache_slot router)))) is

-- header-only files are read as empty tables,
module _ (files : List FileText) where
  pub router_tables-header_only : (n : ℕ) (name : List ℕ) (order : Order)
      → file_named files (file_name (vif_slot name)) ≡ Some vif_header
      → file_named files (file_name (cache_slot name)) ≡ Some cache_header
      → router_tables Input (files_as_source files) n name order ≡ Ok empty_tables
  unfolding router_tables
  router_tables-header_only n name order vif cache = rw (vif, cache) refl

-- ---- where the files are the same, the same is read

module _ (files others : List FileText) where
  -- the part that a file makes
  file_part-same_file : (slot : Slot) → IsSameFile files others slot
      → file_part files slot ≡ file_part others slot
  file_part-same_file slot same =
      ap (λ found. bytes_within_max_part found
      >>= λ bytes. Ok (record { name = part_name slot; bytes = bytes })) same

  -- the tables of a router
  pub router_tables-same_files : (n : ℕ) (name : List ℕ) (order : Order)
      → IsSameFile files others (vif_slot name) → IsSameFile files others (cache_slot name)
      → router_tables Input (files_as_source files) n name order
      ≡ router_tables Input (files_as_source others) n name order
  unfolding router_tables
  router_tables-same_files n name order vif cache =
      rw (file_part-same_file (vif_slot name) vif, file_part-same_file (cache_slot name) cache) refl

  -- the reports of all LANs
  pub all_reports-same_files : ((lan : List ℕ) → IsSameFile files others (reports_slot lan))
      → (n : ℕ) (lans : List (List ℕ))
      → all_reports Input (files_as_source files) n lans ≡ all_reports Input (files_as_source others) n lans
  unfolding all_reports
  all_reports-same_files same n [] = refl
  all_reports-same_files same n (lan ∷ lans) =
      rw (file_part-same_file (reports_slot lan) (same lan), all_reports-same_files same (n + 1) lans) refl

  -- the topology
  pub read_part-same_topology_file : (n : ℕ) → IsSameFile files others topology_slot
      → read_part Input (files_as_source files n topology_slot) topology_of
      ≡ read_part Input (files_as_source others n topology_slot) topology_of
  read_part-same_topology_file n same = rw (file_part-same_file topology_slot same) refl

-- so the reports are the folder's also with routers excluded
pub all_reports-with_exclusions : (names : List (List ℕ)) (files : List FileText) (t : TopologyValue)
    → all_reports Input (files_as_source (files_with_exclusions names files)) (first_lan_number t) t.lans
    ≡ all_reports Input (files_as_source files) (first_lan_number t) t.lans
all_reports-with_exclusions names files t =
    all_reports-same_files (files_with_exclusions names files) files (IsSameFile-reports_slot names files)
    (first_lan_number t) t.lans

-- ---- the names

-- names that are not refused are those of routers,
pub AreRouterNames-from_Ok : (t : TopologyValue) (n : ℕ) (names : List (List ℕ)) (x : Unit {0})
    → check_router_names t n names ≡ Ok x → AreRouterNames t names
AreRouterNames-from_Ok t n [] x e = tt
AreRouterNames-from_Ok t n (name ∷ names) x e =
    elim (has_router name t.routers) as (λ b. has_router name t.routers ≡ b
    → (let r : Result (Unit {0}) ExclusionFault =
    cond b (check_router_names t (n + 1) names) (Err (NoSuchRouter (min n 4294967295))) in r) ≡ Ok x
    → AreRouterNames t (name ∷ names)) [
      | true ↦ λ is e. (is, AreRouterNames-from_Ok t (n + 1) names x e)
      | false ↦ λ is e. absurd cc
    ] refl e

-- and those of routers are not refused
pub check_router_names-Ok : (t : TopologyValue) (n : ℕ) (names : List (List ℕ)) → AreRouterNames t names
    → check_router_names t n names ≡ Ok tt
check_router_names-Ok t n [] are = refl
check_router_names-Ok t n (name ∷ names) are =
    ap (λ b. cond b (check_router_names t (n + 1) names) (Err (NoSuchRouter (min n 4294967295))))
    are.0
    ∙ check_router_names-Ok t (n + 1) names are.1

-- ---- the whole

module _ (names : List (List ℕ)) (files : List FileText) where
  -- the topology is refused first,
  pub input_of_files_without-topology_Err : (fault : SourceFault)
      → read_part Input (files_as_source files 0 topology_slot) topology_of ≡ Err fault
      → input_of_files_without names files ≡ Err (Source fault)
  input_of_files_without-topology_Err fault topology = rw topology refl

  -- then a name,
  pub input_of_files_without-name_Err : (t : TopologyValue) (fault : ExclusionFault)
      → read_part Input (files_as_source files 0 topology_slot) topology_of ≡ Ok t
      → check_router_names t 1 names ≡ Err fault → input_of_files_without names files ≡ Err fault
  input_of_files_without-name_Err t fault topology name = rw (topology, name) refl

  -- and then the rest is
  pub input_of_files_without-names_Ok : (t : TopologyValue) (x : Unit {0})
      → read_part Input (files_as_source files 0 topology_slot) topology_of ≡ Ok t
      → check_router_names t 1 names ≡ Ok x
      → input_of_files_without names files
      ≡ map_fault Source (input_of_files (files_with_exclusions names files))
  input_of_files_without-names_Ok t x topology name = rw (topology, name) refl

  -- the files with routers excluded have the folder's topology
  pub input_of_files-with_exclusions : (t : TopologyValue)
      → read_part Input (files_as_source files 0 topology_slot) topology_of ≡ Ok t
      → input_of_files (files_with_exclusions names files)
      ≡ read_tables_and_reports Input (files_as_source (files_with_exclusions names files)) t
  input_of_files-with_exclusions t topology =
      read_input-judged Input (files_as_source (files_with_exclusions names files)) (λ t. Ok tt) t tt
      (read_part-same_topology_file (files_with_exclusions names files) files 0
      (IsSameFile-topology_slot names files) ∙ topology) refl

-- ---- names as texts

-- a test of each referenced text
pub list_any-map_now : (p : List ℕ → Bool) (texts : List (Bor (List ℕ)))
    → list_any (λ (text : Bor (List ℕ)). p text.now) texts
    ≡ list_any p (map (λ (text : Bor (List ℕ)). text.now) texts)
list_any-map_now p [] = refl
list_any-map_now p (text ∷ texts) = ap (λ b. p text.now || b) (list_any-map_now p texts)

-- a router has a name exactly if it has a number by it
is_some-position_from : {A : Type 0} (p : A → Bool) (i : ℕ) (xs : List A)
    → is_some (position_from p i xs) ≡ list_any p xs
is_some-position_from p i [] = refl
is_some-position_from p i (x ∷ xs) =
    elim (p x) as (λ b. is_some (cond b (Some i) (position_from p (i + 1) xs)) ≡ (b || list_any p xs)) [
      | true ↦ refl
      | false ↦ is_some-position_from p (i + 1) xs
    ]

-- the same of the routers' names
is_some-router_no_of : (name : List ℕ) (routers : List RouterRow)
    → is_some (router_no_of name routers) ≡ has_router name routers
is_some-router_no_of name routers =
    let is_own : RouterRow → Bool = λ r. bytes_eq r.name name in
    ap is_some (position_from-zero is_own routers) ∙ is_some-position_from is_own 0 routers

-- the referenced texts from an index on
drop-map_now_suc : (texts : List (Bor (List ℕ))) (i : ℕ) (d : Bor (List ℕ)) → i < length texts
    → drop i (map (λ (text : Bor (List ℕ)). text.now) texts)
    ≡ (get_or texts i d).now ∷ drop (suc i) (map (λ (text : Bor (List ℕ)). text.now) texts)
drop-map_now_suc [] i d lt = absurd (omega (arith, lt))
drop-map_now_suc (text ∷ texts) zero d lt = refl
drop-map_now_suc (text ∷ texts) (suc i) d lt = drop-map_now_suc texts i d (omega (arith, lt))

-- the same with the next index as a sum
drop-map_now : (texts : List (Bor (List ℕ))) (i : ℕ) (d : Bor (List ℕ)) → i < length texts
    → drop i (map (λ (text : Bor (List ℕ)). text.now) texts)
    ≡ (get_or texts i d).now ∷ drop (i + 1) (map (λ (text : Bor (List ℕ)). text.now) texts)
drop-map_now texts i d lt = rw (add-one) (drop-map_now_suc texts i d lt)

module _ (t : TopologyValue) (texts : List (Bor (List ℕ))) (i : ℕ) (d : Bor (List ℕ))
    (no : Option ℕ) (lt : i < length texts)
    (is : no ≡ router_no_of (get_or texts i d).now t.routers) where
  -- the check from a name on, by whether a router has the name
  check_router_names-by_case : (b : Bool) → is_some no ≡ b
      → check_router_names t (i + 1) (drop i (map (λ (text : Bor (List ℕ)). text.now) texts))
      ≡ cond b
      (check_router_names t (i + 1 + 1) (drop (i + 1) (map (λ (text : Bor (List ℕ)). text.now) texts)))
      (Err (NoSuchRouter (min (i + 1) 4294967295)))
  check_router_names-by_case b here =
      ap (check_router_names t (i + 1)) (drop-map_now texts i d lt)
      ∙ ap (λ b. cond b
      (check_router_names t (i + 1 + 1) (drop (i + 1) (map (λ (text : Bor (List ℕ)). text.now) texts)))
      (Err (NoSuchRouter (min (i + 1) 4294967295))))
      (sym (is_some-router_no_of (get_or texts i d).now t.routers) ∙ ap is_some (sym is) ∙ here)

  -- the next name is that of a router, or of none
  pub check_router_names-more : is_some no ≡ true
      → check_router_names t (i + 1) (drop i (map (λ (text : Bor (List ℕ)). text.now) texts))
      ≡ check_router_names t (i + 1 + 1) (drop (i + 1) (map (λ (text : Bor (List ℕ)). text.now) texts))
  check_router_names-more here = check_router_names-by_case true here

  pub check_router_names-Err : is_some no ≡ false
      → check_router_names t (i + 1) (drop i (map (λ (text : Bor (List ℕ)). text.now) texts))
      ≡ Err (NoSuchRouter (min (i + 1) 4294967295))
  check_router_names-Err here = check_router_names-by_case false here
