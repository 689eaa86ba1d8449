-- The domain with routers excluded is, but for those, the one without the exclusion.
use Rattle.std.specs.Prelude.{◌≡◌, ℕ, zero, suc, ◌+◌, Bool, true, false, List, [], ◌∷◌, length}
use Rattle.std.specs.Prelude.{Option, Some, None, Ok, option_and_then, option_map, refl, slice_get}
use Rattle.std.specs.Prelude.{slice_index_or, unwrap_or}
use Rattle.std.proofs.Common.{ap, ap₂, subst, sym, ◌∙◌}
use Rattle.std.specs.FinMap as finite
use Rattle.mc_text.proofs.StepLemmas.{ok_injective}
use Rattle.mc_igmp.specs.declared.record.Record.{Record}
use Rattle.mc_topology.specs.SectionRows.{RouterRow}
use Rattle.mc_topology.specs.Topology.{TopologyValue}
use Rattle.mc_files.specs.Files.{FileText}
use Rattle.mc_files.specs.Layout.{first_lan_number}
use Rattle.mc_theory.specs.ExcludedRouters.{ExcludesRouters}
use Rattle.mc_forward.specs.Assembling.{IsAssembled}
use Rattle.mc_tables.specs.VifTable.{VifValue}
use Rattle.mc_theory.specs.Nets.{Row}
use Rattle.mc_theory.specs.Nets.Row.{NoRow}
use Rattle.mc_forward.specs.Domains.{DomainValue, TablesValue, VifsValue, lan_of_vif, net_of, row_of, vif_of}
use Rattle.mc_forward.proofs.TableFactLemmas.{row_at, rows_by_tables-at_router, vif_of-vifs_by_tables}
use Rattle.mc_input.specs.FilesReading.{files_as_source}
use Rattle.mc_input.specs.ExcludedRouters.{has_name_among, is_excluded, files_with_exclusions}
use Rattle.mc_input.specs.Meaning.{FilesMeanDomain}
use Rattle.mc_input.specs.PartsReading.{all_reports, all_tables}
use Rattle.mc_input.specs.declared.source_fault.SourceFault.{SourceFault}
use Rattle.mc_input.specs.declared.source_fault.SourceFault.TheVariants.{Input}
use Rattle.mc_input.proofs.InputCounts.{AreCounted-from_PartsDenoteInput}
use Rattle.mc_input.proofs.FilesDenoteInputLemmas.{input_of_files-Ok}
use Rattle.mc_input.proofs.ExcludedLemmas.{IsSameFile-other_cache, is_excluded_name}
use Rattle.mc_input.proofs.ExcludedLemmas.{all_reports-with_exclusions, router_tables-same_files}
use Rattle.mc_input.proofs.ExcludedLemmas.{read_part-same_topology_file, IsSameFile-topology_slot}
use Rattle.mc_input.proofs.ExcludedLemmas.{IsSameFile-other_vif}
use Rattle.mc_input.proofs.HasNoVifOrRowLemmas.{all_tables-first, HasNoVifOrRow-at}
use Rattle.mc_input.proofs.HasNoVifOrRowLemmas.{read_input-reports, read_input-tables}
use Rattle.mc_input.proofs.HasNoVifOrRowLemmas.{read_input-topology}
use Rattle.mc_input.proofs.UniqueDomain.{same_wants-from_IsAssembled}
use Rattle.mc_input.proofs.ReadLemmas.{Ok-injective}

-- the tables of a router that isn't excluded are the same
all_tables-with_exclusions : (names : List (List ℕ)) (files : List FileText) (n : ℕ) (rs : List RouterRow)
    (ts us : List TablesValue) (k : ℕ)
    → all_tables Input (files_as_source (files_with_exclusions names files)) n rs ≡ Ok ts
    → all_tables Input (files_as_source files) n rs ≡ Ok us
    → has_name_among names (slice_get rs k) ≡ false → slice_get ts k ≡ slice_get us k
unfolding all_tables
all_tables-with_exclusions names files n [] ts us k p q known =
    ap (λ (l : List TablesValue). slice_get l k)
    (sym (ok_injective {E = SourceFault} [] ts p) ∙ ok_injective {E = SourceFault} [] us q)
all_tables-with_exclusions names files n (own ∷ rs) ts us zero p q known =
    let a = all_tables-first (files_as_source (files_with_exclusions names files)) n own rs ts p in
    let b = all_tables-first (files_as_source files) n own rs us q in
    let same : a.0 ≡ b.0 = ok_injective {E = SourceFault} a.0 b.0 (sym a.2
    ∙ router_tables-same_files (files_with_exclusions names files) files n own.name own.order
    (IsSameFile-other_vif names files own.name known) (IsSameFile-other_cache names files own.name known)
    ∙ b.2) in
    ap (λ (l : List TablesValue). slice_get l 0) a.4 ∙ ap Some same
    ∙ sym (ap (λ (l : List TablesValue). slice_get l 0) b.4)
all_tables-with_exclusions names files n (own ∷ rs) ts us (suc k) p q known =
    let a = all_tables-first (files_as_source (files_with_exclusions names files)) n own rs ts p in
    let b = all_tables-first (files_as_source files) n own rs us q in
    ap (λ (l : List TablesValue). slice_get l (suc k)) a.4
    ∙ all_tables-with_exclusions names files (n + 2) rs a.1 b.1 k a.3 b.3 known
    ∙ sym (ap (λ (l : List TablesValue). slice_get l (suc k)) b.4)

-- an excluded router has a row in the topology
RouterRow-excluded : (names : List (List ℕ)) (o : Option RouterRow) → has_name_among names o ≡ true
    → (r : RouterRow) × (o ≡ Some r) × (is_excluded_name names r.name ≡ true)
RouterRow-excluded names None e = absurd cc
RouterRow-excluded names (Some r) e = (r, refl, e)

module _ (names : List (List ℕ)) (files : List FileText) (part whole : DomainValue)
    (m : FilesMeanDomain (files_with_exclusions names files) part) (n : FilesMeanDomain files whole) where
  -- the topology's file is the same, and so is the topology that is read of it,
  topology_read : m.input.topology ≡ n.input.topology
  topology_read = Ok-injective (sym (read_input-topology (files_as_source (files_with_exclusions names files))
      m.input (input_of_files-Ok (files_with_exclusions names files) m.input m.denotes))
      ∙ read_part-same_topology_file (files_with_exclusions names files) files 0
      (IsSameFile-topology_slot names files)
      ∙ read_input-topology (files_as_source files) n.input (input_of_files-Ok files n.input n.denotes))

  -- and that of the two domains
  topology_same : part.topology ≡ whole.topology
  topology_same = m.assembled.topology ∙ topology_read ∙ sym n.assembled.topology

  -- the LANs' files are the same, and so are the reports
  reports_same : m.input.reports ≡ n.input.reports
  reports_same =
      let theirs = subst (λ (t : TopologyValue).
      all_reports Input (files_as_source files) (first_lan_number t) t.lans ≡ Ok n.input.reports)
      (sym topology_read)
      (read_input-reports (files_as_source files) n.input (input_of_files-Ok files n.input n.denotes)) in
      ok_injective {E = SourceFault} m.input.reports n.input.reports
      (sym (read_input-reports (files_as_source (files_with_exclusions names files)) m.input
      (input_of_files-Ok (files_with_exclusions names files) m.input m.denotes))
      ∙ all_reports-with_exclusions names files m.input.topology ∙ theirs)

  -- the files of a router that isn't excluded are the same, and so are its tables,
  tables_same : (router : ℕ) → is_excluded whole.topology names router ≡ false
      → slice_get m.input.tables router ≡ slice_get n.input.tables router
  tables_same router known =
      let theirs = subst (λ (t : TopologyValue).
      all_tables Input (files_as_source files) 1 t.routers ≡ Ok n.input.tables) (sym topology_read)
      (read_input-tables (files_as_source files) n.input (input_of_files-Ok files n.input n.denotes)) in
      let here = subst (λ (t : TopologyValue). is_excluded t names router ≡ false)
      (n.assembled.topology ∙ sym topology_read) known in
      all_tables-with_exclusions names files 1 m.input.topology.routers m.input.tables n.input.tables router
      (read_input-tables (files_as_source (files_with_exclusions names files)) m.input
      (input_of_files-Ok (files_with_exclusions names files) m.input m.denotes)) theirs here

  -- its vifs
  vifs_same : (router vif : ℕ) → is_excluded whole.topology names router ≡ false
      → vif_of part.vifs router vif ≡ vif_of whole.vifs router vif
  vifs_same router vif known =
      let own : List VifsValue → Option VifValue = λ vs. vif_of vs router vif in
      ap own m.assembled.vifs ∙ vif_of-vifs_by_tables m.input.tables router vif
      ∙ ap (λ (o : Option TablesValue). option_and_then (λ t. finite.get t.vifs vif) o)
      (tables_same router known)
      ∙ sym (ap own n.assembled.vifs ∙ vif_of-vifs_by_tables n.input.tables router vif)

  -- and its row for each flow
  row_same : (flow router : ℕ) → is_excluded whole.topology names router ≡ false
      → row_of part flow router ≡ row_of whole flow router
  row_same flow router known =
      let own : List (List Row) → Row = λ rs. slice_index_or (slice_index_or rs router []) flow NoRow in
      ap own m.assembled.rows
      ∙ rows_by_tables-at_router m.input.topology.flows m.input.tables flow router
      ∙ ap₂ (λ (t : TopologyValue) (o : Option TablesValue). row_at o (slice_get t.flows flow))
      topology_read (tables_same router known)
      ∙ sym (ap own n.assembled.rows
      ∙ rows_by_tables-at_router n.input.topology.flows n.input.tables flow router)

  -- the same reports want the same flows
  wants_alike : part.wants ≡ whole.wants
  wants_alike =
      let theirs = subst (λ (rs : List (List Record)).
      IsAssembled m.input.topology n.input.tables rs whole) (sym reports_same)
      (subst (λ (t : TopologyValue). IsAssembled t n.input.tables n.input.reports whole)
      (sym topology_read) n.assembled) in
      same_wants-from_IsAssembled m.input n.input.tables part whole m.rules n.rules
      (AreCounted-from_PartsDenoteInput m.denotes.parts m.input None m.denotes.parts_denote).lans
      m.assembled theirs

  -- so the nets agree for each flow but in the excluded routers, which have no vif and no row
  pub ExcludesRouters-from_files : (flow : ℕ)
      → ExcludesRouters (is_excluded whole.topology names) (net_of part flow) (net_of whole flow)
  ExcludesRouters-from_files flow = record {
    routers = ap (λ (t : TopologyValue). length t.routers) topology_same;
    source = ap (λ (t : TopologyValue). unwrap_or (option_map (λ f. f.lan) (slice_get t.flows flow)) 0)
        topology_same;
    ttl = ap (λ (t : TopologyValue). unwrap_or (option_map (λ f. f.ttl) (slice_get t.flows flow)) 0)
        topology_same;
    wants = λ lan. ap (λ (ws : List (List Bool)). slice_index_or (slice_index_or ws lan []) flow false)
        wants_alike;
    placed = λ router vif known. ap₂ (λ (t : TopologyValue) (o : Option VifValue).
        option_and_then (lan_of_vif t router) o) topology_same (vifs_same router vif known);
    row = λ router known. row_same flow router known;
    nothing = λ router vif out.
        let row = RouterRow-excluded names (slice_get part.topology.routers router)
        (subst (λ (t : TopologyValue). is_excluded t names router ≡ true) (sym topology_same) out) in
        (HasNoVifOrRow-at names files part router row.0 m row.1 row.2).placed vif;
  }
