-- The summaries of the caches in a folder's files: what an audit keeps of each cache beside its listed rows
-- (Summary of mc_tables).
use Rattle.std.specs.Prelude.{◌≡◌, ℕ, Bool, List, length, Ok}
use Rattle.mc_bundle.specs.Bundle.{PartText}
use Rattle.mc_tables.specs.CacheReading.{cache_rows_in}
use Rattle.mc_tables.specs.CacheTable.{RowValue}
use Rattle.mc_tables.specs.Summary.{SummaryValue, summary_of}
use Rattle.mc_topology.specs.SectionRows.{RouterRow}
use Rattle.mc_topology.specs.Topology.{TopologyValue}
use Rattle.mc_topology.specs.declared.flow.Flow.{Flow}
use Rattle.mc_files.specs.FilePart.{file_part}
use Rattle.mc_files.specs.Files.{FileText}
use Rattle.mc_files.specs.Layout.{cache_slot}
use Rattle.mc_forward.specs.Assembling.{RelatedAtEachIndex}
use Rattle.mc_forward.specs.ListedTables.{flow_pairs}
use Rattle.mc_input.specs.Stream.{RouterRead}

-- This is the summary of the rows in the router's file `cache-<router>`, whose addresses are in the router's
-- byte order. With `all` it has all pairs that belong to no flow, and otherwise the lowest ones.
pub record IsSummaryOf (all : Bool) (files : List FileText) (flows : List Flow) (row : RouterRow)
    (summary : SummaryValue) : Type 0 where
  pub part : PartText
  pub rows : List RowValue
  pub made : file_part files (cache_slot row.name) ≡ Ok part
  pub read : cache_rows_in row.order part.bytes ≡ Ok rows
  pub summarized : summary ≡ summary_of all (flow_pairs flows) rows

-- This is the summary of the rows in the text of a router's cache, where these pairs are the flows'.
abbrev pub IsSummaryOfRead : (all : Bool) → (pairs : List (ℕ × ℕ)) → RouterRead → SummaryValue → Type 0
IsSummaryOfRead all pairs read summary =
    (rows : List RowValue) × (cache_rows_in read.order read.cache_text ≡ Ok rows)
    × (summary ≡ summary_of all pairs rows)

-- There is one such summary for each router, in the topology's order.
pub record AreSummariesOf (all : Bool) (files : List FileText) (topology : TopologyValue)
    (summary : List SummaryValue) : Type 0 where
  pub count : length summary ≡ length topology.routers
  pub each : RelatedAtEachIndex (IsSummaryOf all files topology.flows) topology.routers summary
