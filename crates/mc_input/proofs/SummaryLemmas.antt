-- The summaries of the caches in a folder's files.
use Rattle.std.specs.Prelude.{◌≡◌, ℕ, Bool, List, Option, Some, None, Ok, Err, refl}
use Rattle.std.specs.Prelude.{filter, length, map as map_list, not}
use Rattle.std.proofs.Common.{ap, arith, ◌∙◌, sym}
use Rattle.std.proofs.lemmas.Option.{slice_get_within}
use Rattle.std.specs.FinMap as map
use Rattle.std.specs.FinSet as set
use Rattle.std.specs.List.{filter_map}
use Rattle.mc_bundle.specs.Bundle.{PartText}
use Rattle.mc_text.specs.Steps.{◌>>=◌}
use Rattle.mc_text.specs.declared.text.addr.Order.{Order}
use Rattle.mc_tables.specs.declared.fault.TableFault.{TableFault}
use Rattle.mc_tables.specs.declared.summary.summarized_cache.SummarizedCache.{SummarizedCache}
use Rattle.mc_tables.specs.CacheReading.{cache_in, cache_rows_in}
use Rattle.mc_tables.specs.CacheTable.{CacheValue, RowValue, key_cmp, key_of, table_of}
use Rattle.mc_tables.specs.ListedRows.{IsListedPart, is_kept_key, is_listed, kept_rows}
use Rattle.mc_tables.specs.SummaryReading.{summary_in, table_without_summary}
use Rattle.mc_tables.specs.Summary.{SummaryValue, every_source_entry, group_first, in_order}
use Rattle.mc_tables.specs.Summary.{keys_for_every_source}
use Rattle.mc_tables.specs.Summary.{summary_of, shown_pairs, unresolved_key}
use Rattle.mc_tables.proofs.ListedLemmas.{set_has_key-listed_set}
use Rattle.mc_tables.proofs.ListedPairLemmas.{from_list-same_groups, same_set}
use Rattle.mc_tables.proofs.ListedPartLemmas.{listed_in-same_fault, listed_in-is_part}
use Rattle.mc_tables.proofs.SummaryLemmas.{table_without_summary-listed_in}
use Rattle.mc_text.proofs.StepLemmas.{bind_ok, ok_injective}
use Rattle.mc_topology.specs.SectionRows.{RouterRow}
use Rattle.mc_topology.specs.Topology.{TopologyValue}
use Rattle.mc_topology.specs.declared.flow.Flow.{Flow}
use Rattle.mc_files.specs.Files.{FileText}
use Rattle.mc_files.specs.declared.fault.FileFault.{FileFault}
use Rattle.mc_forward.specs.ListedTables.{flow_pairs}
use Rattle.mc_forward.proofs.IndexLemmas.{slice_get-exists}
use Rattle.mc_input.specs.Kept.{AreSamePairs}
use Rattle.mc_input.specs.SummariesOfFiles.{IsSummaryOf, AreSummariesOf}
use Rattle.mc_input.proofs.UniqueDomain.{same_lists-from_slice_get}

-- ---- in any order

-- two lists of the same pairs list the same pairs
is_listed-same_set : (xs ys : List (ℕ × ℕ)) → set.from_list {R = key_cmp} xs ≡ set.from_list ys
    → (key : ℕ × ℕ) → is_listed (Some xs) key ≡ is_listed (Some ys) key
is_listed-same_set xs ys same key =
    sym (set_has_key-listed_set (Some xs) key)
    ∙ ap (λ (s : set.FinSet key_cmp). set.contains s key) same
    ∙ set_has_key-listed_set (Some ys) key

-- so the same rows are kept,
is_kept_key-same_set : (xs ys : List (ℕ × ℕ)) → set.from_list {R = key_cmp} xs ≡ set.from_list ys
    → (own : Option (ℕ × ℕ)) → is_kept_key (Some xs) own ≡ is_kept_key (Some ys) own
is_kept_key-same_set xs ys same None = refl
is_kept_key-same_set xs ys same (Some key) = is_listed-same_set xs ys same key

-- the summary depends on which pairs are listed, and on which groups have a row for all sources
abbrev summary_by : (all : Bool) (listed every : ℕ × ℕ → Bool) → List RowValue → SummaryValue
summary_by all listed every rows =
    let others = filter (λ key. not (listed key)) (filter_map key_of rows) in record {
      unresolved = set.from_list (filter listed (filter_map unresolved_key rows));
      for_every_source = map.from_entries
          (filter (λ exact. every exact.0) (filter_map every_source_entry rows));
      unlisted = length others;
      lowest = shown_pairs all (in_order (map_list group_first others));
    }

-- so a cache is read with the same summary
pub summary_in-same_pairs : (all : Bool) (order : Order) (listed pairs : List (ℕ × ℕ)) (text : List ℕ)
    → AreSamePairs listed pairs → summary_in all order listed text ≡ summary_in all order pairs text
summary_in-same_pairs all order listed pairs text same =
    let one = same_set listed pairs same in
    let groups = from_list-same_groups listed pairs (keys_for_every_source pairs)
    (keys_for_every_source pairs) same refl (λ q. (λ there. there, λ there. there)) in
    let every = is_listed-same_set (keys_for_every_source listed)
    (keys_for_every_source pairs) (sym groups) in
    λ i. cache_rows_in order text >>= λ rows. Ok (record {
      table = table_of (filter
          (λ (row : RowValue). is_kept_key-same_set listed pairs one (key_of row) i) rows);
      summary = summary_by all (λ key. is_listed-same_set listed pairs one key i) (λ key. every key i) rows;
    })

-- ---- a cache that is read with a summary

-- a cache that is read with a summary is read alone, as one of which the listed part is kept
pub cache_in-from_summary_in : (all : Bool) (order : Order) (pairs : List (ℕ × ℕ)) (text : List ℕ)
    (summarized : SummarizedCache) → summary_in all order pairs text ≡ Ok summarized
    → (whole : CacheValue) × (cache_in order text ≡ Ok whole)
    × IsListedPart (Some pairs) summarized.table whole
cache_in-from_summary_in all order pairs text summarized e =
    listed_in-is_part order (Some pairs) text summarized.table
    (table_without_summary-listed_in all order pairs text ∙ ap table_without_summary e)

-- its faults are those of the whole cache,
pub cache_in-Err_from_summary_in : (all : Bool) (order : Order) (pairs : List (ℕ × ℕ)) (text : List ℕ)
    (fault : TableFault) → summary_in all order pairs text ≡ Err fault → cache_in order text ≡ Err fault
cache_in-Err_from_summary_in all order pairs text fault e =
    (listed_in-same_fault order (Some pairs) text fault).0
    (table_without_summary-listed_in all order pairs text ∙ ap table_without_summary e)

-- and its summary is that of its rows
pub cache_rows_in-from_summary_in : (all : Bool) (order : Order) (pairs : List (ℕ × ℕ)) (text : List ℕ)
    (summarized : SummarizedCache) → summary_in all order pairs text ≡ Ok summarized
    → (rows : List RowValue) × (cache_rows_in order text ≡ Ok rows)
    × (summarized.summary ≡ summary_of all pairs rows)
cache_rows_in-from_summary_in all order pairs text summarized e =
    let both : List RowValue → SummarizedCache = λ rows. record {
      table = table_of (kept_rows (Some pairs) rows);
      summary = summary_of all pairs rows;
    } in
    let read = bind_ok (cache_rows_in order text) (λ rows. Ok (both rows)) summarized e in (
      read.0,
      read.1,
      sym (ap (λ (n : SummarizedCache). n.summary)
          (ok_injective {E = TableFault} (both read.0) summarized read.2)),
    )

-- ---- at most one list of summaries

-- a router's file is one part, which has one list of rows
IsSummaryOf-unique : (all : Bool) (files : List FileText) (flows : List Flow) (r : RouterRow)
    (a b : SummaryValue) → IsSummaryOf all files flows r a → IsSummaryOf all files flows r b → a ≡ b
IsSummaryOf-unique all files flows r a b one other =
    let part = ok_injective {E = FileFault} one.part other.part (sym one.made ∙ other.made) in
    let rows = ok_injective {E = TableFault} one.rows other.rows
    (sym one.read ∙ ap (λ (p : PartText). cache_rows_in r.order p.bytes) part ∙ other.read) in
    one.summarized ∙ ap (summary_of all (flow_pairs flows)) rows ∙ sym other.summarized

-- so each router has one summary
pub AreSummariesOf-unique : (all : Bool) (files : List FileText) (t : TopologyValue) (a b : List SummaryValue)
    → AreSummariesOf all files t a → AreSummariesOf all files t b → a ≡ b
AreSummariesOf-unique all files t a b one other =
    same_lists-from_slice_get a b (one.count ∙ sym other.count) (λ k x y at here.
    let within = slice_get_within a k x at in
    let r = slice_get-exists t.routers k (omega (arith, within, one.count)) in
    IsSummaryOf-unique all files t.flows r.0 x y (one.each k r.0 x r.1 at) (other.each k r.0 y r.1 here))
