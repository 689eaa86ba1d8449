-- What routers have for the wants that no flow answers (docs/FORMATS.md, "What hosts ask for and no flow
-- answers"), by the caches in a folder's files.
use Rattle.std.specs.Prelude.{◌≡◌, ℕ, List, length, map, slice_get, Ok, Some}
use Rattle.std.specs.FinMap.{FinMap}
use Rattle.std.specs.Ordering.{nat_cmp}
use Rattle.mc_bundle.specs.Bundle.{PartText}
use Rattle.mc_tables.specs.CacheReading.{cache_rows_in}
use Rattle.mc_tables.specs.CacheTable.{RowValue}
use Rattle.mc_tables.specs.VifTable.{VifValue}
use Rattle.mc_topology.specs.SectionRows.{RouterRow}
use Rattle.mc_files.specs.FilePart.{file_part}
use Rattle.mc_files.specs.Files.{FileText}
use Rattle.mc_files.specs.Layout.{cache_slot}
use Rattle.mc_forward.specs.Domains.{DomainValue}
use Rattle.mc_asked.specs.Forwarding.{router_state}
use Rattle.mc_asked.specs.ListWants.{Want}
use Rattle.mc_asked.specs.declared.forwarding.RouterState.{RouterState}

-- This is what a router with these vifs has for each want, which comes with its unadmitted sources (those
-- that the filter of none of its LANs admits), by the rows in the router's file `cache-<router>`.
pub record AreStatesOfRouter (files : List FileText) (wants : List (Want × List ℕ))
    (vifs : FinMap nat_cmp VifValue) (row : RouterRow) (states : List RouterState) : Type 0 where
  pub part : PartText
  pub rows : List RowValue
  pub made : file_part files (cache_slot row.name) ≡ Ok part
  pub read : cache_rows_in row.order part.bytes ≡ Ok rows
  pub stated : states ≡ map (λ want. router_state vifs want.1 want.0 rows) wants

-- This is what each router of a domain has for these wants, in the topology's order.
pub record AreStatesOf (files : List FileText) (wants : List (Want × List ℕ)) (domain : DomainValue)
    (states : List (List RouterState)) : Type 0 where
  pub count : length states ≡ length domain.topology.routers
  pub each : (router : ℕ) (row : RouterRow) (vifs : FinMap nat_cmp VifValue) (own : List RouterState)
      → slice_get domain.topology.routers router ≡ Some row → slice_get domain.vifs router ≡ Some vifs
      → slice_get states router ≡ Some own → AreStatesOfRouter files wants vifs row own
