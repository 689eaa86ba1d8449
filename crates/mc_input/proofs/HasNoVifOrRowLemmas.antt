-- An excluded router has no vif and no row in the domain.
use Rattle.std.specs.Prelude.{◌≡◌, ℕ, zero, suc, ◌+◌, true, List, [], ◌∷◌, Contains}
use Rattle.std.specs.Prelude.{Option, Some, None, Result, Ok, option_and_then, option_map, refl}
use Rattle.std.specs.Prelude.{slice_get, slice_index_or}
use Rattle.std.proofs.Common.{ap, subst, sym, ◌∙◌}
use Rattle.std.specs.FinMap as finite
use Rattle.std.specs.Ordering.{nat_cmp}
use Rattle.std.specs.FinSet as set
use Rattle.mc_bundle.specs.Bundle.{PartText}
use Rattle.mc_text.specs.Steps.{◌>>=◌}
use Rattle.mc_text.proofs.StepLemmas.{bind_ok, ok_injective}
use Rattle.mc_tables.specs.CacheTable.{EntryValue, key_cmp}
use Rattle.mc_topology.specs.SectionRows.{RouterRow}
use Rattle.mc_topology.specs.Topology.{TopologyValue}
use Rattle.mc_topology.specs.declared.flow.Flow.{Flow}
use Rattle.mc_igmp.specs.declared.record.Record.{Record}
use Rattle.mc_files.specs.Files.{FileText}
use Rattle.mc_files.specs.Layout.{Slot, topology_slot}
use Rattle.mc_files.specs.Layout.{first_lan_number}
use Rattle.mc_theory.specs.Nets.{Row}
use Rattle.mc_theory.specs.Nets.Row.{NoRow}
use Rattle.mc_forward.specs.Domains.{DomainValue, TablesValue, VifsValue, lan_of_vif, vif_of}
use Rattle.mc_forward.proofs.TableFactLemmas.{row_at, rows_by_tables-at_router, vif_of-vifs_by_tables}
use Rattle.mc_input.specs.FilesReading.{files_as_source}
use Rattle.mc_input.specs.Input.{InputValue}
use Rattle.mc_input.specs.ExcludedRouters.{HasNoVifOrRow, files_with_exclusions}
use Rattle.mc_input.specs.Meaning.{FilesMeanDomain}
use Rattle.mc_input.specs.PartsReading.{all_reports, all_tables, read_tables_and_reports}
use Rattle.mc_input.specs.PartsReading.{read_input}
use Rattle.mc_input.specs.PartsReading.{router_tables, read_part, topology_of}
use Rattle.mc_input.specs.declared.source_fault.SourceFault.{SourceFault}
use Rattle.mc_input.specs.declared.source_fault.SourceFault.TheVariants.{Input}
use Rattle.mc_input.proofs.FilesDenoteInputLemmas.{input_of_files-Ok}
use Rattle.mc_input.proofs.ExcludedLemmas.{empty_tables, is_excluded_name, is_excluded_name-from_Contains}
use Rattle.mc_input.proofs.ExcludedLemmas.{file_named-excluded_cache, file_named-excluded_vif}
use Rattle.mc_input.proofs.ExcludedLemmas.{router_tables-header_only}

-- ---- the tables of one router among those of all

Some-injective : (x y : TablesValue) → Some x ≡ Some y → x ≡ y
Some-injective x y e = cc

module _ (source : ℕ → Slot → Result PartText SourceFault) where
  pub all_tables-first : (n : ℕ) (own : RouterRow) (rs : List RouterRow) (ts : List TablesValue)
      → all_tables Input source n (own ∷ rs) ≡ Ok ts
      → (t : TablesValue) × (others : List TablesValue)
      × (router_tables Input source n own.name own.order ≡ Ok t)
      × (all_tables Input source (n + 2) rs ≡ Ok others) × (ts ≡ t ∷ others)
  unfolding all_tables
  all_tables-first n own rs ts e =
      let first = bind_ok (router_tables Input source n own.name own.order)
      (λ tables. all_tables Input source (n + 2) rs >>= λ others. Ok (tables ∷ others)) ts e in
      let rest = bind_ok (all_tables Input source (n + 2) rs) (λ others. Ok (first.0 ∷ others)) ts
      first.2 in (
        first.0,
        rest.0,
        first.1,
        rest.1,
        sym (ok_injective {E = SourceFault} (first.0 ∷ rest.0) ts rest.2),
      )

  all_tables-slice_get : (n : ℕ) (rs : List RouterRow) (ts : List TablesValue) (k : ℕ) (r : RouterRow)
      (t : TablesValue) → all_tables Input source n rs ≡ Ok ts → slice_get rs k ≡ Some r
      → slice_get ts k ≡ Some t
      → (m : ℕ) × (router_tables Input source m r.name r.order ≡ Ok t)
  all_tables-slice_get n [] ts k r t e at here = absurd cc
  all_tables-slice_get n (own ∷ rs) ts zero r t e at here =
      let first = all_tables-first n own rs ts e in
      let row : own ≡ r = cc in
      let tables : first.0 ≡ t = Some-injective first.0 t
      (ap (λ (l : List TablesValue). slice_get l 0) (sym first.4) ∙ here) in (
        n,
        subst (λ (r : RouterRow). router_tables Input source n r.name r.order ≡ Ok t) row
            (first.2 ∙ ap Ok tables),
      )
  all_tables-slice_get n (own ∷ rs) ts (suc k) r t e at here =
      let first = all_tables-first n own rs ts e in
      all_tables-slice_get (n + 2) rs first.1 k r t first.3 at
      (ap (λ (l : List TablesValue). slice_get l (suc k)) (sym first.4) ∙ here)

  read_tables_and_reports-parts : (t : TopologyValue) (v : InputValue)
      → read_tables_and_reports Input source t ≡ Ok v
      → (v.topology ≡ t) × (all_tables Input source 1 t.routers ≡ Ok v.tables)
      × (all_reports Input source (first_lan_number t) t.lans ≡ Ok v.reports)
  unfolding read_tables_and_reports
  read_tables_and_reports-parts t v e =
      let make : List TablesValue → List (List Record) → InputValue = λ tables reports.
      record { topology = t; tables = tables; reports = reports } in
      let tables = bind_ok (all_tables Input source 1 t.routers)
      (λ tables. all_reports Input source (first_lan_number t) t.lans
      >>= λ reports. Ok (make tables reports)) v e in
      let reports = bind_ok (all_reports Input source (first_lan_number t) t.lans)
      (λ reports. Ok (make tables.0 reports)) v tables.2 in
      let whole : make tables.0 reports.0 ≡ v =
      ok_injective {E = SourceFault} (make tables.0 reports.0) v reports.2 in (
        sym (ap (λ (v : InputValue). v.topology) whole),
        tables.1 ∙ ap (λ (v : InputValue). Ok v.tables) whole,
        reports.1 ∙ ap (λ (v : InputValue). Ok v.reports) whole,
      )

  pub read_input-topology : (v : InputValue) → read_input Input source (λ t. Ok tt) ≡ Ok v
      → read_part Input (source 0 topology_slot) topology_of ≡ Ok v.topology
  unfolding read_input
  read_input-topology v e =
      let topology = bind_ok (read_part Input (source 0 topology_slot) topology_of)
      (λ t. read_tables_and_reports Input source t) v e in
      topology.1 ∙ ap Ok (sym (read_tables_and_reports-parts topology.0 v topology.2).0)

  pub read_input-tables : (v : InputValue) → read_input Input source (λ t. Ok tt) ≡ Ok v
      → all_tables Input source 1 v.topology.routers ≡ Ok v.tables
  unfolding read_input
  read_input-tables v e =
      let topology = bind_ok (read_part Input (source 0 topology_slot) topology_of)
      (λ t. read_tables_and_reports Input source t) v e in
      let both = read_tables_and_reports-parts topology.0 v topology.2 in
      subst (λ (t : TopologyValue). all_tables Input source 1 t.routers ≡ Ok v.tables) (sym both.0)
      both.1

  pub read_input-reports : (v : InputValue) → read_input Input source (λ t. Ok tt) ≡ Ok v
      → all_reports Input source (first_lan_number v.topology) v.topology.lans ≡ Ok v.reports
  unfolding read_input
  read_input-reports v e =
      let topology = bind_ok (read_part Input (source 0 topology_slot) topology_of)
      (λ t. read_tables_and_reports Input source t) v e in
      let all = read_tables_and_reports-parts topology.0 v topology.2 in
      subst (λ (t : TopologyValue). all_reports Input source (first_lan_number t) t.lans ≡ Ok v.reports)
      (sym all.0) all.2

-- ---- an excluded router

-- empty tables have no vif and no row
vif-empty_tables : (o : Option TablesValue) → ((t : TablesValue) → o ≡ Some t → empty_tables ≡ t) → (vif : ℕ)
    → option_and_then (λ t. finite.get t.vifs vif) o ≡ None
vif-empty_tables None are vif = refl
vif-empty_tables (Some t) are vif =
    subst (λ (t : TablesValue). finite.get t.vifs vif ≡ None) (are t refl) (finite.get-empty nat_cmp vif)

row_at-empty_tables : (o : Option TablesValue) → ((t : TablesValue) → o ≡ Some t → empty_tables ≡ t)
    → (flow : Option Flow) → row_at o flow ≡ NoRow
row_at-empty_tables None are flow = refl
row_at-empty_tables (Some t) are None = refl
row_at-empty_tables (Some t) are (Some flow) =
    subst (λ (t : TablesValue). row_at (Some t) (Some flow) ≡ NoRow) (are t refl)
    (rw (
      set.contains-empty nat_cmp flow.group,
      set.contains-empty nat_cmp 0,
      finite.get-empty {X = EntryValue} key_cmp (flow.source, flow.group),
    ) refl)

-- the row of a router with this name
RouterRow-from_name : (o : Option RouterRow) (name : List ℕ) → option_map (λ r. r.name) o ≡ Some name
    → (r : RouterRow) × (o ≡ Some r) × (r.name ≡ name)
RouterRow-from_name None name e = absurd cc
RouterRow-from_name (Some r) name e = (r, refl, cc)

module _ (names : List (List ℕ)) (files : List FileText) (d : DomainValue) (router : ℕ)
    (row : RouterRow) (means : FilesMeanDomain (files_with_exclusions names files) d)
    (here : slice_get d.topology.routers router ≡ Some row)
    (is : is_excluded_name names row.name ≡ true) where
  empty_tables-excluded : (t : TablesValue) → slice_get means.input.tables router ≡ Some t → empty_tables ≡ t
  empty_tables-excluded t there =
      let input = means.input in
      let all = files_with_exclusions names files in
      let source = files_as_source all in
      let at = ap (λ (t : TopologyValue). slice_get t.routers router) (sym means.assembled.topology) ∙ here in
      let own = all_tables-slice_get source 1 input.topology.routers input.tables router row t
      (read_input-tables source input (input_of_files-Ok all input means.denotes)) at there in
      ok_injective {E = SourceFault} empty_tables t
      (sym (router_tables-header_only all own.0 row.name row.order
      (file_named-excluded_vif names files row.name is) (file_named-excluded_cache names files row.name is))
      ∙ own.1)

  pub HasNoVifOrRow-at : HasNoVifOrRow d router
  HasNoVifOrRow-at =
      let t = means.input.topology in
      let tables = means.input.tables in
      let vifs : (vif : ℕ) → vif_of d.vifs router vif ≡ None = λ vif.
      ap (λ (vs : List VifsValue). vif_of vs router vif) means.assembled.vifs
      ∙ vif_of-vifs_by_tables tables router vif
      ∙ vif-empty_tables (slice_get tables router) empty_tables-excluded vif in
      record {
        vifs = vifs;
        placed = λ vif. ap (option_and_then (lan_of_vif d.topology router)) (vifs vif);
        rows = λ flow.
            ap (λ (rs : List (List Row)). slice_index_or (slice_index_or rs router []) flow NoRow)
            means.assembled.rows
            ∙ rows_by_tables-at_router t.flows tables flow router
            ∙ row_at-empty_tables (slice_get tables router) empty_tables-excluded (slice_get t.flows flow);
      }

pub HasNoVifOrRow-excluded : (names : List (List ℕ)) (files : List FileText) (d : DomainValue) (router : ℕ)
    (name : List ℕ) → FilesMeanDomain (files_with_exclusions names files) d → Contains names name
    → option_map (λ r. r.name) (slice_get d.topology.routers router) ≡ Some name
    → HasNoVifOrRow d router
HasNoVifOrRow-excluded names files d router name means named own =
    let row = RouterRow-from_name (slice_get d.topology.routers router) name own in
    HasNoVifOrRow-at names files d router row.0 means row.1
    (subst (λ (n : List ℕ). is_excluded_name names n ≡ true) (sym row.2)
    (is_excluded_name-from_Contains names name named))
