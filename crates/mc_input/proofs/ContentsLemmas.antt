-- What is read of the slots' parts one after another is what the definitions read of a source.
use Rattle.std.specs.Prelude.{◌≡◌, ℕ, ◌+◌, ◌*◌, Bool, List, [], ◌∷◌, ◌++◌, flat_map, length, map, Result, Ok}
use Rattle.std.specs.Prelude.{Err, refl}
use Rattle.std.specs.FinMap.{FinMap}
use Rattle.std.specs.Ordering.{nat_cmp}
use Rattle.std.proofs.Common.{ap, ◌∙◌, arith}
use Rattle.mc_bundle.specs.Bundle.{PartText}
use Rattle.mc_text.specs.Steps.{◌>>=◌, map_fault}
use Rattle.mc_igmp.specs.declared.record.Record.{Record}
use Rattle.mc_tables.specs.CacheTable.{CacheValue}
use Rattle.mc_tables.specs.VifTable.{VifValue}
use Rattle.mc_topology.specs.SectionRows.{RouterRow}
use Rattle.mc_topology.specs.Topology.{TopologyValue}
use Rattle.mc_files.specs.Layout.{Slot, cache_slot, certificate_slots, reports_slot, router_slots}
use Rattle.mc_files.specs.Layout.{slots_after_topology, vif_slot}
use Rattle.mc_files.specs.Layout.{first_lan_number}
use Rattle.mc_forward.specs.Domains.{TablesValue}
use Rattle.mc_input.specs.Input.{InputValue}
use Rattle.mc_input.specs.InputView.{input_with}
use Rattle.mc_input.specs.PartsOneByOne.{certificate_number}
use Rattle.mc_input.specs.PartsReading.{all_reports, all_tables, cache_of, read_part}
use Rattle.mc_input.specs.PartsReading.{read_tables_and_reports, reports_of, router_tables, vifs_of}
use Rattle.mc_input.specs.Stream.{ContentsRead, NextParts, RouterRead, cache_and_text, input_of_contents}
use Rattle.mc_input.specs.Stream.{parts_of_slots, read_contents, read_each, read_lans, read_routers}
use Rattle.mc_input.specs.Stream.{router_read}
use Rattle.mc_input.specs.declared.fault.InputFault.{InputFault}
use Rattle.mc_input.specs.declared.source_fault.SourceFault.{SourceFault}
use Rattle.mc_input.specs.declared.source_fault.SourceFault.TheVariants.{Input}

-- what is read of the routers, of which the definitions keep the tables, and of the LANs, each with the
-- parts after it
abbrev pub TablesAndRest : Type 0
TablesAndRest = Result (List TablesValue × NextParts) SourceFault

abbrev pub RoutersAndRest : Type 0
RoutersAndRest = Result (List RouterRead × NextParts) SourceFault

abbrev ReportsAndRest : Type 0
ReportsAndRest = Result (List (List Record) × NextParts) SourceFault

-- the tables alone
abbrev pub tables_alone : RoutersAndRest → TablesAndRest
tables_alone found = found >>= λ reads. Ok (map (λ (read : RouterRead). read.tables) reads.0, reads.1)

-- one router in front is one table in front
tables_alone-in_front : (own : RouterRead) (found : RoutersAndRest)
    → tables_alone (found >>= λ others. Ok (own ∷ others.0, others.1))
    ≡ (tables_alone found >>= λ others. (let r : TablesAndRest = Ok (own.tables ∷ others.0, others.1) in r))
tables_alone-in_front own (Ok found) = refl
tables_alone-in_front own (Err fault) = refl

-- a value in front leaves the parts after it
with_rest-in_front : {X : Type 0} (own : X) (rest : NextParts) (found : Result (List X) SourceFault)
    → ((found >>= λ xs. (let r : Result (List X × NextParts) SourceFault = Ok (xs, rest) in r))
    >>= λ others. (let r : Result (List X × NextParts) SourceFault = Ok (own ∷ others.0, others.1) in r))
    ≡ ((found >>= λ others. Ok (own ∷ others)) >>= λ xs. Ok (xs, rest))
with_rest-in_front own rest (Ok others) = refl
with_rest-in_front own rest (Err fault) = refl

module _ (source : ℕ → Slot → Result PartText SourceFault) where
  -- the routers' tables,
  pub read_routers-all_tables : (n m : ℕ) (rs : List RouterRow) (more : List Slot) → m ≡ n + 2 * length rs
      → tables_alone (read_routers rs (parts_of_slots source n (flat_map router_slots rs ++ more)))
      ≡ (all_tables Input source n rs
      >>= λ tables. (let r : TablesAndRest = Ok (tables, parts_of_slots source m more) in r))
  unfolding read_each all_tables router_tables
  read_routers-all_tables n m [] more is =
      let same : n ≡ m = omega (arith, is) in
      ap (λ (k : ℕ). let r : TablesAndRest = Ok ([], parts_of_slots source k more) in r) same
  read_routers-all_tables n m (r ∷ rs) more is =
      let two : n + 1 + 1 ≡ n + 2 = omega arith in
      ap (λ (k : ℕ). tables_alone (read_routers (r ∷ rs) (source n (vif_slot r.name)
      ∷ source (n + 1) (cache_slot r.name) ∷ parts_of_slots source k (flat_map router_slots rs ++ more)))) two
      ∙ by (read_part Input (source n (vif_slot r.name)) vifs_of) (source (n + 1) (cache_slot r.name))
      (read_routers-all_tables (n + 2) m rs more (omega (arith, is)))
    where
      here : NextParts
      here = parts_of_slots source (n + 2) (flat_map router_slots rs ++ more)

      rest : NextParts
      rest = parts_of_slots source m more

      by_cache : tables_alone (read_routers rs here)
          ≡ (all_tables Input source (n + 2) rs
          >>= λ tables. (let r : TablesAndRest = Ok (tables, rest) in r))
          → (vifs : FinMap nat_cmp VifValue) (text : List ℕ) (cache : Result CacheValue InputFault)
          → tables_alone ((map_fault Input
          (cache >>= λ entries. (let r : Result (CacheValue × List ℕ) InputFault =
          Ok (entries, text) in r))
          >>= λ found. (let r : Result (RouterRead × NextParts) SourceFault =
          Ok (router_read vifs found.0 r.order found.1, here) in r))
          >>= λ own. read_routers rs own.1
          >>= λ others. (let r : RoutersAndRest = Ok (own.0 ∷ others.0, others.1) in r))
          ≡ (((map_fault Input cache >>= λ entries. (let r : Result TablesValue SourceFault =
          Ok (record { vifs = vifs; cache = entries }) in r))
          >>= λ tables. all_tables Input source (n + 2) rs
          >>= λ others. Ok (tables ∷ others))
          >>= λ tables. Ok (tables, rest))
      by_cache same vifs text (Ok entries) =
          let own = router_read vifs entries r.order text in
          tables_alone-in_front own (read_routers rs here)
          ∙ ap (λ (all : TablesAndRest). all >>= λ others.
          (let r : TablesAndRest = Ok (own.tables ∷ others.0, others.1) in r)) same
          ∙ with_rest-in_front own.tables rest (all_tables Input source (n + 2) rs)
      by_cache same vifs text (Err fault) = refl

      by : (vifs : Result (FinMap nat_cmp VifValue) SourceFault) (given : Result PartText SourceFault)
          → tables_alone (read_routers rs here)
          ≡ (all_tables Input source (n + 2) rs
          >>= λ tables. (let r : TablesAndRest = Ok (tables, rest) in r))
          → tables_alone ((vifs >>= λ found. read_part Input given (cache_and_text r.order)
          >>= λ cache. (let r : Result (RouterRead × NextParts) SourceFault =
          Ok (router_read found cache.0 r.order cache.1, here) in r))
          >>= λ own. read_routers rs own.1
          >>= λ others. (let r : RoutersAndRest = Ok (own.0 ∷ others.0, others.1) in r))
          ≡ (((vifs >>= λ found. read_part Input given (cache_of r.order)
          >>= λ entries. (let r : Result TablesValue SourceFault =
          Ok (record { vifs = found; cache = entries }) in r))
          >>= λ tables. all_tables Input source (n + 2) rs
          >>= λ others. Ok (tables ∷ others))
          >>= λ tables. Ok (tables, rest))
      by (Err fault) given same = refl
      by (Ok found) (Err fault) same = refl
      by (Ok found) (Ok part) same = by_cache same found part.bytes (cache_of r.order part)

  -- the LANs' reports,
  pub read_lans-all_reports : (n m : ℕ) (lans : List (List ℕ)) (more : List Slot) → m ≡ n + length lans
      → read_lans lans (parts_of_slots source n (map reports_slot lans ++ more))
      ≡ (all_reports Input source n lans
      >>= λ reports. (let r : ReportsAndRest = Ok (reports, parts_of_slots source m more) in r))
  unfolding read_each all_reports
  read_lans-all_reports n m [] more is =
      let same : n ≡ m = omega (arith, is) in
      ap (λ (k : ℕ). let r : ReportsAndRest = Ok ([], parts_of_slots source k more) in r) same
  read_lans-all_reports n m (lan ∷ lans) more is =
      by (read_part Input (source n (reports_slot lan)) reports_of)
      (read_lans-all_reports (n + 1) m lans more (omega (arith, is)))
    where
      here : NextParts
      here = parts_of_slots source (n + 1) (map reports_slot lans ++ more)

      rest : NextParts
      rest = parts_of_slots source m more

      by : (records : Result (List Record) SourceFault)
          → read_lans lans here ≡ (all_reports Input source (n + 1) lans
          >>= λ reports. (let r : ReportsAndRest = Ok (reports, rest) in r))
          → ((records >>= λ own. (let r : Result (List Record × NextParts) SourceFault = Ok (own, here) in r))
          >>= λ own. read_lans lans own.1
          >>= λ others. (let r : ReportsAndRest = Ok (own.0 ∷ others.0, others.1) in r))
          ≡ ((records >>= λ own. all_reports Input source (n + 1) lans >>= λ others. Ok (own ∷ others))
          >>= λ reports. Ok (reports, rest))
      by (Err fault) same = refl
      by (Ok own) same =
          ap (λ (all : ReportsAndRest). all >>= λ others.
          (let r : ReportsAndRest = Ok (own ∷ others.0, others.1) in r)) same
          ∙ with_rest-in_front own rest (all_reports Input source (n + 1) lans)

  -- and all contents
  pub read_contents-source : (certified : Bool) (t : TopologyValue)
      → (read_contents t (parts_of_slots source 1 (slots_after_topology certified t))
      >>= λ read. (let r : Result (InputValue × NextParts) SourceFault =
      Ok (input_of_contents t read.0, read.1) in r))
      ≡ (read_tables_and_reports Input source t
      >>= λ input. Ok (input, parts_of_slots source (certificate_number t) (certificate_slots certified)))
  unfolding read_tables_and_reports
  read_contents-source certified t =
      split (read_routers t.routers (parts_of_slots source 1 (slots_after_topology certified t)))
      ∙ ap by_tables (read_routers-all_tables 1 (first_lan_number t) t.routers lan_slots refl)
      ∙ after_tables (all_tables Input source 1 t.routers)
    where
      lan_slots : List Slot
      lan_slots = map reports_slot t.lans ++ certificate_slots certified

      lan_parts : NextParts
      lan_parts = parts_of_slots source (first_lan_number t) lan_slots

      rest : NextParts
      rest = parts_of_slots source (certificate_number t) (certificate_slots certified)

      by_tables : TablesAndRest → Result (InputValue × NextParts) SourceFault
      by_tables found = found >>= λ tables. read_lans t.lans tables.1
          >>= λ reports. Ok (input_with t tables.0 reports.0, reports.1)

      by_reports : (routers : List RouterRead) (found : ReportsAndRest)
          → ((found >>= λ reports. (let r : Result (ContentsRead × NextParts) SourceFault =
          Ok ((routers, reports.0), reports.1) in r))
          >>= λ read. (let r : Result (InputValue × NextParts) SourceFault =
          Ok (input_of_contents t read.0, read.1) in r))
          ≡ (found >>= λ reports.
          Ok (input_with t (map (λ (read : RouterRead). read.tables) routers) reports.0, reports.1))
      by_reports routers (Ok found) = refl
      by_reports routers (Err fault) = refl

      split : (found : RoutersAndRest)
          → ((found >>= λ routers. read_lans t.lans routers.1
          >>= λ reports. (let r : Result (ContentsRead × NextParts) SourceFault =
          Ok ((routers.0, reports.0), reports.1) in r))
          >>= λ read. (let r : Result (InputValue × NextParts) SourceFault =
          Ok (input_of_contents t read.0, read.1) in r))
          ≡ by_tables (tables_alone found)
      split (Ok found) = by_reports found.0 (read_lans t.lans found.1)
      split (Err fault) = refl

      after_reports : (tables : List TablesValue) (found : Result (List (List Record)) SourceFault)
          → ((found >>= λ reports. (let r : ReportsAndRest = Ok (reports, rest) in r))
          >>= λ reports. (let r : Result (InputValue × NextParts) SourceFault =
          Ok (input_with t tables reports.0, reports.1) in r))
          ≡ ((found >>= λ reports. Ok (input_with t tables reports)) >>= λ input. Ok (input, rest))
      after_reports tables (Ok reports) = refl
      after_reports tables (Err fault) = refl

      after_tables : (found : Result (List TablesValue) SourceFault)
          → by_tables (found >>= λ tables. Ok (tables, lan_parts))
          ≡ ((found >>= λ tables. all_reports Input source (first_lan_number t) t.lans
          >>= λ reports. Ok (input_with t tables reports))
          >>= λ input. Ok (input, rest))
      after_tables (Ok tables) =
          ap (λ (found : ReportsAndRest). found >>= λ reports.
          (let r : Result (InputValue × NextParts) SourceFault =
          Ok (input_with t tables reports.0, reports.1) in r))
          (read_lans-all_reports (first_lan_number t) (certificate_number t) t.lans
          (certificate_slots certified) refl)
          ∙ after_reports tables (all_reports Input source (first_lan_number t) t.lans)
      after_tables (Err fault) = refl
