-- What is read of a folder's lists of reports one after another are the lists of its files.
use Rattle.std.specs.Prelude.{◌≡◌, ℕ, ◌+◌, ◌*◌, List, [], ◌∷◌, ◌++◌, flat_map, length, map}
use Rattle.std.specs.Prelude.{Result, Ok, Err, refl, false}
use Rattle.std.proofs.Common.{ap, ◌∙◌, sym, subst}
use Rattle.mc_bundle.specs.Bundle.{PartText}
use Rattle.mc_text.specs.Steps.{◌>>=◌, map_fault}
use Rattle.mc_text.proofs.StepLemmas.{bind_ok, ok_injective}
use Rattle.mc_igmp.specs.ReadingList.{read_list}
use Rattle.mc_igmp.specs.declared.record.Record.{Record}
use Rattle.mc_topology.specs.SectionRows.{RouterRow}
use Rattle.mc_topology.specs.Topology.{TopologyValue}
use Rattle.mc_files.specs.FilePart.{file_part}
use Rattle.mc_files.specs.Files.{FileText}
use Rattle.mc_files.specs.Layout.{Slot, certificate_slots, reports_slot, router_slots, slots_after_topology}
use Rattle.mc_files.proofs.PartLemmas.{Ok-from_refused_as}
use Rattle.mc_forward.specs.Domains.{TablesValue}
use Rattle.mc_forward.specs.ListedTables.{Pairwise}
use Rattle.mc_forward.proofs.ListedTableLemmas.{pairwise-count, pairwise-each}
use Rattle.mc_input.specs.FilesReading.{files_as_source}
use Rattle.mc_input.specs.ListsOfFiles.{AreListsOf, IsListOf}
use Rattle.mc_input.specs.PartsReading.{all_tables, reports_of}
use Rattle.mc_input.specs.SourceFault.{from_file_fault}
use Rattle.mc_input.specs.Stream.{ContentsRead, NextParts, RouterRead, parts_of_slots, read_contents}
use Rattle.mc_input.specs.Stream.{read_each, read_first, read_lan, read_lans, read_routers}
use Rattle.mc_input.specs.declared.source_fault.SourceFault.{SourceFault}
use Rattle.mc_input.specs.declared.fault.InputFault.TheVariants.{Reports}
use Rattle.mc_input.specs.declared.source_fault.SourceFault.TheVariants.{Input}
use Rattle.mc_input.proofs.ContentsLemmas.{read_routers-all_tables, tables_alone}

module _ (files : List FileText) where
  abbrev source : ℕ → Slot → Result PartText SourceFault
  source = files_as_source files

  -- after the routers' parts come those of the other slots
  rest-of_routers : (rs : List RouterRow) (n : ℕ) (more : List Slot) (reads : List RouterRead)
      (rest : NextParts)
      → read_routers rs (parts_of_slots source n (flat_map router_slots rs ++ more)) ≡ Ok (reads, rest)
      → rest ≡ parts_of_slots source (n + 2 * length rs) more
  rest-of_routers rs n more reads rest e =
      by (all_tables Input source n rs)
      (sym (ap tables_alone e) ∙ read_routers-all_tables source n (n + 2 * length rs) rs more refl)
    where
      later : NextParts
      later = parts_of_slots source (n + 2 * length rs) more

      by : (tables : Result (List TablesValue) SourceFault)
          → (let q : Result (List TablesValue × NextParts) SourceFault =
          Ok (map (λ (read : RouterRead). read.tables) reads, rest) in q)
          ≡ (tables >>= λ own. (let q : Result (List TablesValue × NextParts) SourceFault =
          Ok (own, later) in q))
          → rest ≡ later
      by (Ok own) e = ap (λ (p : List TablesValue × NextParts). p.1) (ok_injective {E = SourceFault} _ _ e)
      by (Err fault) e = absurd cc

  -- of one LAN
  IsListOf-from_read : (lan : List ℕ) (n : ℕ) (more : NextParts) (own : List Record × NextParts)
      → read_lan (source n (reports_slot lan) ∷ more) ≡ Ok own
      → (own.1 ≡ more) × IsListOf files lan own.0
  IsListOf-from_read lan n more own e =
      let parts = source n (reports_slot lan) ∷ more in
      let first = bind_ok (read_first reports_of parts) (λ records.
      (let q : Result (List Record × NextParts) SourceFault = Ok (records, more) in q)) own e in
      let whole = ok_injective {E = SourceFault} _ own first.2 in
      let part = bind_ok (source n (reports_slot lan))
      (λ part. map_fault Input (reports_of part)) first.0 first.1 in
      let records = Ok-from_refused_as (Reports part.0.name) (read_list part.0.bytes) first.0
      (Ok-from_refused_as Input (reports_of part.0) first.0 part.2) in (
        sym (ap (λ (p : List Record × NextParts). p.1) whole),
        record {
          part = part.0;
          made = Ok-from_refused_as from_file_fault (file_part files (reports_slot lan)) part.0 part.1;
          read = records ∙ ap Ok (ap (λ (p : List Record × NextParts). p.0) whole);
        },
      )

  -- of these LANs
  lists-of_lans : (lans : List (List ℕ)) (n : ℕ) (more : List Slot) (lists : List (List Record))
      (rest : NextParts)
      → read_lans lans (parts_of_slots source n (map reports_slot lans ++ more)) ≡ Ok (lists, rest)
      → Pairwise (IsListOf files) lans lists
  unfolding read_each
  lists-of_lans [] n more lists rest e =
      subst (Pairwise (IsListOf files) [])
      (ap (λ (p : List (List Record) × NextParts). p.0) (ok_injective {E = SourceFault} _ _ e)) tt
  lists-of_lans (lan ∷ lans) n more lists rest e =
      let own = bind_ok (read_lan (source n (reports_slot lan) ∷ later))
      (λ own. read_lans lans own.1 >>= λ others.
      (let q : Result (List (List Record) × NextParts) SourceFault = Ok (own.0 ∷ others.0, others.1) in q))
      (lists, rest) e in
      let one = IsListOf-from_read lan n later own.0 own.1 in
      let others = bind_ok (read_lans lans own.0.1) (λ others.
      (let q : Result (List (List Record) × NextParts) SourceFault = Ok (own.0.0 ∷ others.0, others.1) in q))
      (lists, rest) own.2 in
      let same : own.0.0 ∷ others.0.0 ≡ lists =
      ap (λ (p : List (List Record) × NextParts). p.0) (ok_injective {E = SourceFault} _ _ others.2) in
      subst (Pairwise (IsListOf files) (lan ∷ lans)) same (
        one.1,
        lists-of_lans lans (n + 1) more others.0.0 others.0.1
            (ap (read_lans lans) (sym one.0) ∙ others.1),
      )
    where
      later : NextParts
      later = parts_of_slots source (n + 1) (map reports_slot lans ++ more)

  -- of all LANs
  pub AreListsOf-from_contents : (t : TopologyValue) (read : ContentsRead) (rest : NextParts)
      → read_contents t (parts_of_slots source 1 (slots_after_topology false t)) ≡ Ok (read, rest)
      → AreListsOf files t read.1
  AreListsOf-from_contents t read rest e =
      let parts = parts_of_slots source 1 (slots_after_topology false t) in
      let more = map reports_slot t.lans ++ certificate_slots false in
      let routers = bind_ok (read_routers t.routers parts) (λ routers. read_lans t.lans routers.1
      >>= λ reports. (let q : Result (ContentsRead × NextParts) SourceFault =
      Ok ((routers.0, reports.0), reports.1) in q)) (read, rest) e in
      let reports = bind_ok (read_lans t.lans routers.0.1) (λ reports.
      (let q : Result (ContentsRead × NextParts) SourceFault = Ok ((routers.0.0, reports.0), reports.1) in q))
      (read, rest) routers.2 in
      let same : reports.0.0 ≡ read.1 =
      ap (λ (p : ContentsRead × NextParts). p.0.1) (ok_injective {E = SourceFault} _ _ reports.2) in
      let after = rest-of_routers t.routers 1 more routers.0.0 routers.0.1 routers.1 in
      let all_of = lists-of_lans t.lans (1 + 2 * length t.routers)
      (certificate_slots false) reports.0.0 reports.0.1
      (ap (read_lans t.lans) (sym after) ∙ reports.1) in
      let own = subst (Pairwise (IsListOf files) t.lans) same all_of in
      record {
        count = sym (pairwise-count (IsListOf files) t.lans read.1 own);
        each = pairwise-each (IsListOf files) t.lans read.1 own;
      }
