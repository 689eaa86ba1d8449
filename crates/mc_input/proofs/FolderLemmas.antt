-- What is read of a folder's files one after another, as the definitions read it, and the summaries.
use Rattle.std.specs.Prelude.{◌≡◌, ℕ, ◌+◌, Bool, false, List, [], ◌∷◌, ◌++◌, drop, flat_map, map, Option}
use Rattle.std.specs.Prelude.{Some, None, Result, Ok, Err, option_map}
use Rattle.std.proofs.Common.{ap, ◌∙◌, sym, subst}
use Rattle.mc_text.specs.Steps.{◌>>=◌, map_fault}
use Rattle.mc_text.proofs.StepLemmas.{bind_ok, ok_injective}
use Rattle.mc_tables.specs.CacheReading.{cache_rows_in}
use Rattle.mc_tables.specs.CacheTable.{CacheValue}
use Rattle.mc_tables.specs.Summary.{SummaryValue}
use Rattle.mc_topology.specs.SectionRows.{RouterRow}
use Rattle.mc_topology.specs.Topology.{TopologyValue}
use Rattle.mc_files.specs.FilePart.{file_part}
use Rattle.mc_files.specs.Files.{FileText}
use Rattle.mc_files.specs.Layout.{Slot, cache_slot, certificate_slots, reports_slot, router_slots}
use Rattle.mc_files.specs.Layout.{slots_after_topology, vif_slot}
use Rattle.mc_files.proofs.PartLemmas.{Ok-from_refused_as}
use Rattle.mc_forward.specs.ListedTables.{Pairwise, flow_pairs}
use Rattle.mc_forward.proofs.ListedTableLemmas.{pairwise-count, pairwise-each}
use Rattle.mc_input.specs.FilesReading.{files_as_source}
use Rattle.mc_input.specs.Input.{InputValue}
use Rattle.mc_input.specs.PartsOneByOne.{certificate_number}
use Rattle.mc_input.specs.PartsReading.{cache_of, read_tables_and_reports, vifs_of}
use Rattle.mc_input.specs.SourceFault.{from_file_fault}
use Rattle.mc_input.specs.Stream.{ContentsRead, NextParts, RouterRead, Stream, cache_and_text, files_give}
use Rattle.mc_input.specs.Stream.{input_of_contents, parts_of_slots, read_contents, read_first, read_lans}
use Rattle.mc_input.specs.Stream.{read_each, read_router, read_routers, router_read}
use Rattle.mc_input.specs.SummariesOfFiles.{AreSummariesOf, IsSummaryOf, IsSummaryOfRead}
use Rattle.mc_input.specs.declared.source_fault.SourceFault.{SourceFault}
use Rattle.mc_input.specs.declared.source_fault.SourceFault.TheVariants.{Input}
use Rattle.mc_input.proofs.ContentsLemmas.{read_contents-source}

-- what a folder gives is never refused as a whole
pub files_give-Ok : (t : TopologyValue) (n : ℕ) (seen : List FileText → List FileText) (files : List FileText)
    (contents : Option (List FileText)) (later : Stream) → contents ≡ Some files
    → option_map (λ fs. files_give t n (seen fs)) contents ≡ Some later
    → (rest : NextParts) × (later ≡ Ok rest)
files_give-Ok t n seen files None later is e = absurd cc
files_give-Ok t n seen files (Some own) later is e = (_, sym (some e))
  where
    some : {x y : Stream} → Some x ≡ Some y → x ≡ y
    some e = cc

module _ (files : List FileText) where
  module _ (t : TopologyValue) where
    -- the parts of the folder after the topology's
    abbrev parts : NextParts
    parts = parts_of_slots (files_as_source files) 1 (slots_after_topology false t)

    -- the input is what is read,
    pub read_tables_and_reports-from_contents : (read : ContentsRead) (rest : NextParts)
        → read_contents t parts ≡ Ok (read, rest)
        → read_tables_and_reports Input (files_as_source files) t ≡ Ok (input_of_contents t read)
    read_tables_and_reports-from_contents read rest e =
        by (read_tables_and_reports Input (files_as_source files) t)
        (sym (ap (λ (r : Result (ContentsRead × NextParts) SourceFault). r
        >>= λ x. (let q : Result (InputValue × NextParts) SourceFault =
        Ok (input_of_contents t x.0, x.1) in q)) e)
        ∙ read_contents-source (files_as_source files) false t)
      where
        by : (r : Result InputValue SourceFault)
            → (let q : Result (InputValue × NextParts) SourceFault = Ok (input_of_contents t read, rest) in q)
            ≡ (r >>= λ input. Ok
            (input, parts_of_slots (files_as_source files) (certificate_number t) (certificate_slots false)))
            → r ≡ Ok (input_of_contents t read)
        by (Ok own) e =
            ap Ok (sym (ap (λ (p : InputValue × NextParts). p.0) (ok_injective {E = SourceFault} _ _ e)))
        by (Err fault) e = absurd cc

    -- or is refused for the same
    pub read_tables_and_reports-contents_Err : (fault : SourceFault) → read_contents t parts ≡ Err fault
        → read_tables_and_reports Input (files_as_source files) t ≡ Err fault
    read_tables_and_reports-contents_Err fault e =
        by (read_tables_and_reports Input (files_as_source files) t)
        (sym (ap (λ (r : Result (ContentsRead × NextParts) SourceFault). r
        >>= λ x. (let q : Result (InputValue × NextParts) SourceFault =
        Ok (input_of_contents t x.0, x.1) in q)) e)
        ∙ read_contents-source (files_as_source files) false t)
      where
        by : (r : Result InputValue SourceFault)
            → (let q : Result (InputValue × NextParts) SourceFault = Err fault in q)
            ≡ (r >>= λ input. Ok
            (input, parts_of_slots (files_as_source files) (certificate_number t) (certificate_slots false)))
            → r ≡ Err fault
        by (Ok own) e = absurd cc
        by (Err other) e = cc

  -- ---- the summaries

  module _ (all : Bool) (t : TopologyValue) where
    -- the summary is that of a router's cache as it was read
    abbrev IsOwn : RouterRead → SummaryValue → Type 0
    IsOwn = IsSummaryOfRead all (flow_pairs t.flows)

    -- of one router
    IsSummaryOf-from_read : (r : RouterRow) (n : ℕ) (more : NextParts) (own : RouterRead × NextParts)
        (summary : SummaryValue)
        → read_router r.order (files_as_source files n (vif_slot r.name)
        ∷ files_as_source files (n + 1) (cache_slot r.name) ∷ more) ≡ Ok own
        → (own.1 ≡ more) × (IsOwn own.0 summary → IsSummaryOf all files t.flows r summary)
    IsSummaryOf-from_read r n more own summary e =
        let parts = files_as_source files n (vif_slot r.name)
        ∷ files_as_source files (n + 1) (cache_slot r.name) ∷ more in
        let vifs = bind_ok (read_first vifs_of parts) (λ vifs.
        read_first (cache_and_text r.order) (drop 1 parts)
        >>= λ cache. (let q : Result (RouterRead × NextParts) SourceFault =
        Ok (router_read vifs cache.0 r.order cache.1, more) in q)) own e in
        let cache = bind_ok (read_first (cache_and_text r.order) (drop 1 parts))
        (λ cache. (let q : Result (RouterRead × NextParts) SourceFault =
        Ok (router_read vifs.0 cache.0 r.order cache.1, more) in q)) own vifs.2 in
        let whole = ok_injective {E = SourceFault} _ own cache.2 in
        let part = bind_ok (files_as_source files (n + 1) (cache_slot r.name))
        (λ part. map_fault Input (cache_and_text r.order part)) cache.0 cache.1 in
        let entries = bind_ok (cache_of r.order part.0) (λ entries. Ok (entries, part.0.bytes)) cache.0
        (Ok-from_refused_as Input (cache_and_text r.order part.0) cache.0 part.2) in
        let text = ap (λ (p : CacheValue × List ℕ). p.1) (ok_injective _ cache.0 entries.2) in
        let read = ap (λ (p : RouterRead × NextParts). p.0) whole in (
          sym (ap (λ (p : RouterRead × NextParts). p.1) whole),
          λ is. record {
            part = part.0;
            rows = is.0;
            made = Ok-from_refused_as from_file_fault (file_part files (cache_slot r.name)) part.0 part.1;
            read = ap (cache_rows_in r.order) text
                ∙ ap (λ (own : RouterRead). cache_rows_in own.order own.cache_text) read ∙ is.1;
            summarized = is.2;
          },
        )

    -- of these routers
    summaries-of_routers : (rs : List RouterRow) (n : ℕ) (more : List Slot) (reads : List RouterRead)
        (rest : NextParts) (summary : List SummaryValue)
        → read_routers rs (parts_of_slots (files_as_source files) n (flat_map router_slots rs ++ more))
        ≡ Ok (reads, rest)
        → Pairwise IsOwn reads summary → Pairwise (IsSummaryOf all files t.flows) rs summary
    unfolding read_each
    summaries-of_routers [] n more reads rest summary e each =
        let none : [] ≡ reads = ap (λ (p : List RouterRead × NextParts). p.0)
        (ok_injective {E = SourceFault} _ _ e) in
        by summary (subst (λ (rs : List RouterRead). Pairwise IsOwn rs summary) (sym none) each)
      where
        by : (ss : List SummaryValue) → Pairwise IsOwn [] ss → Pairwise (IsSummaryOf all files t.flows) [] ss
        by [] each = tt
        by (s ∷ ss) each = absurd each
    summaries-of_routers (r ∷ rs) n more reads rest summary e each =
        let later = parts_of_slots (files_as_source files) (n + 1 + 1) (flat_map router_slots rs ++ more) in
        let own = bind_ok (read_router r.order (files_as_source files n (vif_slot r.name)
        ∷ files_as_source files (n + 1) (cache_slot r.name) ∷ later))
        (λ own. read_routers rs own.1 >>= λ others.
        (let q : Result (List RouterRead × NextParts) SourceFault = Ok (own.0 ∷ others.0, others.1) in q))
        (reads, rest) e in
        let others = bind_ok (read_routers rs own.0.1)
        (λ others. (let q : Result (List RouterRead × NextParts) SourceFault =
        Ok (own.0.0 ∷ others.0, others.1) in q)) (reads, rest) own.2 in
        let same : own.0.0 ∷ others.0.0 ≡ reads =
        ap (λ (p : List RouterRead × NextParts). p.0) (ok_injective {E = SourceFault} _ _ others.2) in
        by (λ found left ss. summaries-of_routers rs (n + 1 + 1) more found left ss)
        own.0 others.0 own.1 others.1 summary
        (subst (λ (xs : List RouterRead). Pairwise IsOwn xs summary) (sym same) each)
      where
        later : NextParts
        later = parts_of_slots (files_as_source files) (n + 1 + 1) (flat_map router_slots rs ++ more)

        by : ((found : List RouterRead) (left : NextParts) (ss : List SummaryValue)
            → read_routers rs later ≡ Ok (found, left) → Pairwise IsOwn found ss
            → Pairwise (IsSummaryOf all files t.flows) rs ss)
            → (own : RouterRead × NextParts) (others : List RouterRead × NextParts)
            → read_router r.order (files_as_source files n (vif_slot r.name)
            ∷ files_as_source files (n + 1) (cache_slot r.name) ∷ later) ≡ Ok own
            → read_routers rs own.1 ≡ Ok others → (ss : List SummaryValue)
            → Pairwise IsOwn (own.0 ∷ others.0) ss → Pairwise (IsSummaryOf all files t.flows) (r ∷ rs) ss
        by those own others first next [] each = absurd each
        by those own others first next (s ∷ ss) each =
            let one = IsSummaryOf-from_read r n later own s first in (
              one.1 each.0,
              those others.0 others.1 ss (ap (read_routers rs) (sym one.0) ∙ next) each.1,
            )

    -- of all routers
    pub AreSummariesOf-from_contents : (read : ContentsRead) (rest : NextParts) (summary : List SummaryValue)
        → read_contents t (parts t) ≡ Ok (read, rest) → Pairwise IsOwn read.0 summary
        → AreSummariesOf all files t summary
    AreSummariesOf-from_contents read rest summary e each =
        let routers = bind_ok (read_routers t.routers (parts t)) (λ routers. read_lans t.lans routers.1
        >>= λ reports. (let q : Result (ContentsRead × NextParts) SourceFault =
        Ok ((routers.0, reports.0), reports.1) in q)) (read, rest) e in
        let reports = bind_ok (read_lans t.lans routers.0.1) (λ reports.
        (let q : Result (ContentsRead × NextParts) SourceFault =
        Ok ((routers.0.0, reports.0), reports.1) in q))
        (read, rest) routers.2 in
        let same : routers.0.0 ≡ read.0 =
        ap (λ (p : ContentsRead × NextParts). p.0.0) (ok_injective {E = SourceFault} _ _ reports.2) in
        let all_of = summaries-of_routers t.routers 1 (map reports_slot t.lans ++ certificate_slots false)
        routers.0.0 routers.0.1 summary routers.1
        (subst (λ (xs : List RouterRead). Pairwise IsOwn xs summary) (sym same) each) in
        record {
          count = sym (pairwise-count (IsSummaryOf all files t.flows) t.routers summary all_of);
          each = pairwise-each (IsSummaryOf all files t.flows) t.routers summary all_of;
        }
