-- Parts denote what they are read as, whatever their source.
use Rattle.std.specs.Prelude.{◌≡◌, ℕ, ◌+◌, ◌*◌, false, List, [], ◌∷◌, ◌++◌, length, map, flat_map}
use Rattle.std.specs.Prelude.{Option, Result, Ok, refl}
use Rattle.std.proofs.Common.{ap, arith, subst}
use Rattle.mc_text.specs.Steps.{map_fault}
use Rattle.mc_bundle.specs.Bundle.{PartText}
use Rattle.mc_text.proofs.StepLemmas.{bind_ok}
use Rattle.mc_tables.specs.VifReading.{vifs_in}
use Rattle.mc_tables.specs.CacheReading.{cache_in}
use Rattle.mc_tables.proofs.LawLemmas.{vifs_in-iff_denotes, cache_in-iff_denotes}
use Rattle.mc_igmp.specs.ReadingList.{read_list}
use Rattle.mc_igmp.specs.declared.record.Record.{Record}
use Rattle.mc_igmp.proofs.ListLemmas.{read_list-sound, read_list-complete}
use Rattle.mc_topology.specs.Reading.{parse_topology}
use Rattle.mc_topology.specs.SectionRows.{RouterRow}
use Rattle.mc_topology.specs.Topology.{TopologyValue}
use Rattle.mc_topology.proofs.TopologyTexts.{parse_topology-denotes, parse_topology-from_denotes}
use Rattle.mc_files.specs.Layout.{Slot, part_name, topology_slot, vif_slot, cache_slot}
use Rattle.mc_files.specs.Layout.{reports_slot, router_slots, slots}
use Rattle.mc_files.proofs.PartLemmas.{Ok-from_refused_as}
use Rattle.mc_files.specs.Layout.{first_lan_number}
use Rattle.mc_forward.specs.Domains.{TablesValue}
use Rattle.mc_input.specs.Input.{InputValue, PartsDenoteInput, PartsDenoteTables}
use Rattle.mc_input.specs.Input.{PartsDenoteReports, DenotesTables}
use Rattle.mc_input.specs.Input.{PartsDenoteCertificate}
use Rattle.mc_input.specs.PartsReading.{topology_of, vifs_of, cache_of, reports_of, read_part}
use Rattle.mc_input.specs.PartsReading.{router_tables, all_tables, all_reports}
use Rattle.mc_input.specs.PartsReading.{read_tables_and_reports}
use Rattle.mc_input.specs.PartsReading.{read_input}
use Rattle.mc_input.specs.declared.fault.InputFault.{InputFault}
use Rattle.mc_input.specs.declared.fault.InputFault.TheVariants.{Topology, Vif, Cache, Reports}

module _ {F : Type 0} (source : ℕ → Slot → Result PartText F) where
  -- The source gives the first of these parts for the slots from a number on. Those left are `rest`.
  abbrev pub Serves : ℕ → List Slot → List PartText → (rest : List PartText) → Type 0
  Serves n [] parts rest = parts ≡ rest
  Serves n (slot ∷ more) [] rest = ⊥
  Serves n (slot ∷ more) (part ∷ parts) rest =
      (source n slot ≡ Ok part) × Serves (n + 1) more parts rest

  -- a part that is given for a slot has its name
  abbrev pub GivesSlotNames : Type 0
  GivesSlotNames = (n : ℕ) (slot : Slot) (part : PartText) → source n slot ≡ Ok part
      → part.name ≡ part_name slot

  -- the same from an equal number
  Serves-same_number : (m n : ℕ) (more : List Slot) (parts rest : List PartText) → n ≡ m
      → Serves n more parts rest → Serves m more parts rest
  Serves-same_number m n more parts rest is h = subst (λ (k : ℕ). Serves k more parts rest) is h

module _ {F : Type 0} (as_ours : InputFault → F) (source : ℕ → Slot → Result PartText F) where
  -- ---- the routers' tables

  -- the parts of these routers' slots denote the tables, and the source gives them before those of `more`
  record HasTableParts (n : ℕ) (rs : List RouterRow) (ts : List TablesValue) (rest : List PartText)
      (more : List Slot) (end : List PartText) : Type 0 where
    parts : List PartText
    denote : PartsDenoteTables rs parts ts rest
    served : Serves source n (flat_map router_slots rs ++ more) parts end

  -- tables that are read are those of such parts
  HasTableParts-from_all_tables : GivesSlotNames source
      → (n : ℕ) (rs : List RouterRow) (ts : List TablesValue)
      (rest : List PartText) (more : List Slot) (end : List PartText)
      → all_tables as_ours source n rs ≡ Ok ts → Serves source (n + 2 * length rs) more rest end
      → HasTableParts n rs ts rest more end
  unfolding all_tables router_tables
  HasTableParts-from_all_tables named n [] [] rest more end e after = record {
    parts = rest;
    denote = refl;
    served = Serves-same_number source n (n + 2 * 0) more rest end (omega arith) after;
  }
  HasTableParts-from_all_tables named n [] (t ∷ ts) rest more end e after = absurd (cc)
  HasTableParts-from_all_tables named n (r ∷ rs) ts rest more end e after =
      let t = bind_ok (router_tables as_ours source n r.name r.order) _ ts e in
      let u = bind_ok (all_tables as_ours source (n + 2) rs) _ ts t.2 in
      let all : t.0 ∷ u.0 ≡ ts = cc in
      let v = bind_ok (read_part as_ours (source n (vif_slot r.name)) vifs_of) _ t.0 t.1 in
      let w = bind_ok (read_part as_ours (source (n + 1) (cache_slot r.name)) (cache_of r.order)) _
      t.0 v.2 in
      let is : (record { vifs = v.0; cache = w.0 }) ≡ t.0 = cc in
      let p = bind_ok (source n (vif_slot r.name))
      (λ part. map_fault as_ours (vifs_of part)) v.0 v.1 in
      let q = bind_ok (source (n + 1) (cache_slot r.name))
      (λ part. map_fault as_ours (cache_of r.order part)) w.0 w.1 in
      let vifs = (vifs_in-iff_denotes p.0.bytes v.0).0
      (Ok-from_refused_as (Vif p.0.name) (vifs_in p.0.bytes) v.0
      (Ok-from_refused_as as_ours (vifs_of p.0) v.0 p.2)) in
      let entries = (cache_in-iff_denotes r.order q.0.bytes w.0).0
      (Ok-from_refused_as (Cache q.0.name) (cache_in r.order q.0.bytes) w.0
      (Ok-from_refused_as as_ours (cache_of r.order q.0) w.0 q.2)) in
      let denotes_tables : DenotesTables r p.0 q.0 t.0 = subst (DenotesTables r p.0 q.0) is (record {
        vif_named = named n (vif_slot r.name) p.0 p.1;
        vifs = vifs;
        cache_named = named (n + 1) (cache_slot r.name) q.0 q.1;
        entries = entries;
      }) in
      let later = HasTableParts-from_all_tables named (n + 2) rs u.0 rest more end u.1
      (Serves-same_number source (n + 2 + 2 * length rs) (n + 2 * length (r ∷ rs)) more rest end (omega arith)
      after) in
      subst (λ (every : List TablesValue). HasTableParts n (r ∷ rs) every rest more end) all (record {
        parts = p.0 ∷ q.0 ∷ later.parts;
        denote = (denotes_tables, later.denote);
        served = (
          p.1,
          (
            q.1,
            Serves-same_number source (n + 1 + 1) (n + 2) (flat_map router_slots rs ++ more) later.parts end
                (omega arith) later.served,
          ),
        );
      })

  -- and tables that parts denote are read of them
  all_tables-denoted : (n : ℕ) (rs : List RouterRow) (here : List PartText) (ts : List TablesValue)
      (rest : List PartText) (more : List Slot) (end : List PartText)
      → PartsDenoteTables rs here ts rest → Serves source n (flat_map router_slots rs ++ more) here end
      → (all_tables as_ours source n rs ≡ Ok ts) × Serves source (n + 2 * length rs) more rest end
  unfolding all_tables router_tables
  all_tables-denoted n [] here [] rest more end h served = (
    refl,
    Serves-same_number source (n + 2 * 0) n more rest end (omega arith)
        (subst (λ (ps : List PartText). Serves source n more ps end) h served),
  )
  all_tables-denoted n [] here (t ∷ ts) rest more end h served = absurd h
  all_tables-denoted n (r ∷ rs) [] ts rest more end h served = absurd h
  all_tables-denoted n (r ∷ rs) (vif ∷ []) ts rest more end h served = absurd h
  all_tables-denoted n (r ∷ rs) (vif ∷ cache ∷ here) [] rest more end h served = absurd h
  all_tables-denoted n (r ∷ rs) (vif ∷ cache ∷ here) (t ∷ ts) rest more end h served =
      let later = all_tables-denoted (n + 2) rs here ts rest more end h.1
      (Serves-same_number source (n + 2) (n + 1 + 1) (flat_map router_slots rs ++ more) here end (omega arith)
      served.1.1) in (
        rw (
          served.0,
          (vifs_in-iff_denotes vif.bytes t.vifs).1 h.0.vifs,
          served.1.0,
          (cache_in-iff_denotes r.order cache.bytes t.cache).1 h.0.entries,
          later.0,
        ) refl,
        Serves-same_number source (n + 2 * length (r ∷ rs)) (n + 2 + 2 * length rs)
            more rest end (omega arith) later.1,
      )

  -- ---- the LANs' reports

  -- the parts of these LANs' slots denote the reports, and the source gives them before those of `more`
  record HasReportParts (n : ℕ) (lans : List (List ℕ)) (all : List (List Record))
      (rest : List PartText) (more : List Slot) (end : List PartText) : Type 0 where
    parts : List PartText
    denote : PartsDenoteReports lans parts all rest
    served : Serves source n (map reports_slot lans ++ more) parts end

  -- reports that are read are those of such parts
  HasReportParts-from_all_reports : GivesSlotNames source
      → (n : ℕ) (lans : List (List ℕ)) (all : List (List Record))
      (rest : List PartText) (more : List Slot) (end : List PartText)
      → all_reports as_ours source n lans ≡ Ok all → Serves source (n + length lans) more rest end
      → HasReportParts n lans all rest more end
  unfolding all_reports
  HasReportParts-from_all_reports named n [] [] rest more end e after = record {
    parts = rest;
    denote = refl;
    served = Serves-same_number source n (n + 0) more rest end (omega arith) after;
  }
  HasReportParts-from_all_reports named n [] (records ∷ all) rest more end e after = absurd (cc)
  HasReportParts-from_all_reports named n (lan ∷ lans) all rest more end e after =
      let t = bind_ok (read_part as_ours (source n (reports_slot lan)) reports_of) _ all e in
      let u = bind_ok (all_reports as_ours source (n + 1) lans) _ all t.2 in
      let is : t.0 ∷ u.0 ≡ all = cc in
      let p = bind_ok (source n (reports_slot lan))
      (λ part. map_fault as_ours (reports_of part)) t.0 t.1 in
      let denotes = read_list-sound p.0.bytes t.0
      (Ok-from_refused_as (Reports p.0.name) (read_list p.0.bytes) t.0
      (Ok-from_refused_as as_ours (reports_of p.0) t.0 p.2)) in
      let later = HasReportParts-from_all_reports named (n + 1) lans u.0 rest more end u.1
      (Serves-same_number source (n + 1 + length lans) (n + length (lan ∷ lans)) more rest end (omega arith)
      after) in
      subst (λ (every : List (List Record)). HasReportParts n (lan ∷ lans) every rest more end) is
      (record {
        parts = p.0 ∷ later.parts;
        denote = (
          record { named = named n (reports_slot lan) p.0 p.1; denotes = denotes },
          later.denote,
        );
        served = (p.1, later.served);
      })

  -- and reports that parts denote are read of them
  all_reports-denoted : (n : ℕ) (lans : List (List ℕ)) (here : List PartText)
      (all : List (List Record)) (rest : List PartText) (more : List Slot) (end : List PartText)
      → PartsDenoteReports lans here all rest → Serves source n (map reports_slot lans ++ more) here end
      → (all_reports as_ours source n lans ≡ Ok all) × Serves source (n + length lans) more rest end
  unfolding all_reports
  all_reports-denoted n [] here [] rest more end h served = (
    refl,
    Serves-same_number source (n + 0) n more rest end (omega arith)
        (subst (λ (ps : List PartText). Serves source n more ps end) h served),
  )
  all_reports-denoted n [] here (records ∷ all) rest more end h served = absurd h
  all_reports-denoted n (lan ∷ lans) [] all rest more end h served = absurd h
  all_reports-denoted n (lan ∷ lans) (part ∷ here) [] rest more end h served = absurd h
  all_reports-denoted n (lan ∷ lans) (part ∷ here) (records ∷ all) rest more end h served =
      let later = all_reports-denoted (n + 1) lans here all rest more end h.1 served.1 in (
        rw (served.0, read_list-complete part.bytes records h.0.denotes, later.0) refl,
        Serves-same_number source (n + length (lan ∷ lans)) (n + 1 + length lans) more rest end (omega arith)
            later.1,
      )

  -- ---- all parts

  -- the parts denote the input, and the source gives them for its slots
  pub record HasInputParts (v : InputValue) (last : List PartText) (certificate : Option (List ℕ))
      : Type 0 where
    pub parts : List PartText
    pub served : Serves source 0 (slots false v.topology) parts last
    pub parts_denote : PartsDenoteInput parts v certificate

  -- an input that was read passed the check
  pub judged-from_read_input : (judge : TopologyValue → Result (Unit {0}) F) (v : InputValue)
      → read_input as_ours source judge ≡ Ok v → judge v.topology ≡ Ok tt
  unfolding read_input read_tables_and_reports
  judged-from_read_input judge v e =
      let a = bind_ok (read_part as_ours (source 0 topology_slot) topology_of) _ v e in
      let b = bind_ok (judge a.0) _ v a.2 in
      let c = bind_ok (all_tables as_ours source 1 a.0.routers) _ v b.2 in
      let d = bind_ok (all_reports as_ours source (first_lan_number a.0) a.0.lans) _ v c.2 in
      let is : (record { topology = a.0; tables = c.0; reports = d.0 }) ≡ v = cc in
      subst (λ (w : InputValue). judge w.topology ≡ Ok tt) is b.1

  -- the parts denote what is read, with any certificate behind them
  pub HasInputParts-from_read_input : GivesSlotNames source
      → (judge : TopologyValue → Result (Unit {0}) F) (v : InputValue)
      (last : List PartText) (certificate : Option (List ℕ))
      → read_input as_ours source judge ≡ Ok v → PartsDenoteCertificate last certificate
      → HasInputParts v last certificate
  unfolding read_input read_tables_and_reports
  HasInputParts-from_read_input named judge v last certificate e denoted =
      let a = bind_ok (read_part as_ours (source 0 topology_slot) topology_of) _ v e in
      let b = bind_ok (judge a.0) _ v a.2 in
      let c = bind_ok (all_tables as_ours source 1 a.0.routers) _ v b.2 in
      let d = bind_ok (all_reports as_ours source (first_lan_number a.0) a.0.lans) _ v c.2 in
      let is : (record { topology = a.0; tables = c.0; reports = d.0 }) ≡ v = cc in
      let p = bind_ok (source 0 topology_slot)
      (λ part. map_fault as_ours (topology_of part)) a.0 a.1 in
      let denotes = parse_topology-denotes p.0.bytes a.0
      (Ok-from_refused_as Topology (parse_topology p.0.bytes) a.0
      (Ok-from_refused_as as_ours (topology_of p.0) a.0 p.2)) in
      let reports = HasReportParts-from_all_reports named
      (first_lan_number a.0) a.0.lans d.0 last [] last d.1 refl in
      let tables = HasTableParts-from_all_tables named 1 a.0.routers c.0 reports.parts
      (map reports_slot a.0.lans ++ []) last c.1 reports.served in
      let top : p.0 ≡ record { name = part_name topology_slot; bytes = p.0.bytes }
      = ap (λ (x : List ℕ). let q : PartText = record { name = x; bytes = p.0.bytes } in q)
      (named 0 topology_slot p.0 p.1) in
      subst (λ (w : InputValue). HasInputParts w last certificate) is (record {
        parts = p.0 ∷ tables.parts;
        served = (
          p.1,
          Serves-same_number source (0 + 1) 1 (flat_map router_slots a.0.routers
              ++ (map reports_slot a.0.lans ++ [])) tables.parts last (omega arith)
              tables.served,
        );
        parts_denote = record {
          topology = p.0.bytes;
          of_routers = tables.parts;
          of_lans = reports.parts;
          last = last;
          in_order = ap (λ (q : PartText). q ∷ tables.parts) top;
          topology_denoted = denotes;
          tables = tables.denote;
          reports = reports.denote;
          certificate_denoted = denoted;
        };
      })

  -- and parts that denote an input are read as it
  pub read_input-denoted : (judge : TopologyValue → Result (Unit {0}) F) (parts : List PartText)
      (v : InputValue) (certificate : Option (List ℕ)) (h : PartsDenoteInput parts v certificate)
      (end : List PartText)
      → Serves source 0 (slots false v.topology) parts end → judge v.topology ≡ Ok tt
      → (read_input as_ours source judge ≡ Ok v) × (h.last ≡ end)
  unfolding read_input read_tables_and_reports
  read_input-denoted judge parts v certificate h end served judged =
      let t = v.topology in
      let top : PartText = record { name = part_name topology_slot; bytes = h.topology } in
      let here : Serves source 0 (slots false t) (top ∷ h.of_routers) end =
      subst (λ (ps : List PartText). Serves source 0 (slots false t) ps end) h.in_order served in
      let tables = all_tables-denoted 1 t.routers h.of_routers v.tables h.of_lans
      (map reports_slot t.lans ++ []) end h.tables
      (Serves-same_number source 1 (0 + 1)
      (flat_map router_slots t.routers ++ (map reports_slot t.lans ++ []))
      h.of_routers end (omega arith) here.1) in
      let reports = all_reports-denoted (first_lan_number t) t.lans h.of_lans v.reports h.last [] end
      h.reports tables.1 in
      let read = parse_topology-from_denotes h.topology t h.topology_denoted in
      (rw (here.0, read, judged, tables.0, reports.0) refl, reports.1)
