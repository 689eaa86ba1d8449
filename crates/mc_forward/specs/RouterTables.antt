-- What is kept of the routers' tables: the vifs, and the row for each flow of a topology.
use Rattle.std.specs.Prelude.{◌≡◌, ℕ, List, [], ◌∷◌, ◌++◌, length, map, refl}
use Rattle.std.specs.Coded.{Coded, code_by, coded×, coded_list, coded_ℕ}
use Rattle.std.specs.List.{AllByRecursion}
use Rattle.mc_topology.specs.Topology.{TopologyValue}
use Rattle.mc_topology.specs.declared.flow.Flow.{Flow}
use Rattle.mc_theory.specs.Nets.{Row}
use Rattle.mc_forward.specs.Assembling.{rows_by_tables, vifs_by_tables}
use Rattle.mc_forward.specs.DomainParts.{row_code, vifs_code}
use Rattle.mc_forward.specs.Domains.{TablesValue, VifsValue, IsValidRow, row_in_cache}

-- how many flows there are, and of each router its vifs and its row for each flow
pub record RouterTablesValue : Type 0 where
  pub flows : ℕ
  pub vifs : List VifsValue
  pub rows : List (List Row)

-- what is kept, with these fields
abbrev pub router_tables_with : ℕ → List VifsValue → List (List Row) → RouterTablesValue
router_tables_with flows vifs rows = record { flows = flows; vifs = vifs; rows = rows }

-- what is kept of these tables for the flows
abbrev pub kept_of_tables : List Flow → List TablesValue → RouterTablesValue
kept_of_tables flows tables =
    router_tables_with (length flows) (vifs_by_tables tables) (rows_by_tables flows tables)

-- what is kept, and after it what is kept of one more router's tables
abbrev pub with_router : List Flow → RouterTablesValue → TablesValue → RouterTablesValue
with_router flows kept own =
    router_tables_with kept.flows (kept.vifs ++ own.vifs ∷ [])
    (kept.rows ++ map (row_in_cache own.cache) flows ∷ [])

-- there is a row for each of `flows` flows, as a kernel has them
pub record HaveRows (flows : ℕ) (own : List Row) : Type 0 where
  pub count : length own ≡ flows
  pub valid : AllByRecursion IsValidRow own

-- the rules of what is kept: there are vifs and rows for equally many routers, and each router has
-- its rows
pub record AreRouterTables (kept : RouterTablesValue) : Type 0 where
  pub routers : length kept.vifs ≡ length kept.rows
  pub rows : AllByRecursion (HaveRows kept.flows) kept.rows

-- what is kept is of as many routers and flows as the topology has
pub record AreTablesFor (topology : TopologyValue) (kept : RouterTablesValue) : Type 0 where
  pub routers : length kept.vifs ≡ length topology.routers
  pub flows : kept.flows ≡ length topology.flows

-- what is kept is stored as its fields
abbrev pub router_tables_code : Coded RouterTablesValue
router_tables_code =
    code_by (ℕ × (List VifsValue × List (List Row)))
    (coded× coded_ℕ (coded× (coded_list vifs_code) (coded_list (coded_list row_code))))
    (λ tables. (tables.flows, (tables.vifs, tables.rows)))
    (λ stored. router_tables_with stored.0 stored.1.0 stored.1.1) (λ _. refl)
