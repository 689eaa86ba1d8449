-- The vifs and the rows of a domain, router by router, in the tables that it is assembled of.
use Rattle.std.proofs.Common.{◌≡◌, ℕ, zero, suc, List, [], ◌∷◌, get_or, map, slice_get, Option, Some, None}
use Rattle.std.proofs.Common.{refl}
use Rattle.std.specs.Prelude.{option_and_then}
use Rattle.std.specs.FinMap as finite
use Rattle.mc_topology.specs.declared.flow.Flow.{Flow}
use Rattle.mc_theory.specs.Nets.{Row}
use Rattle.mc_theory.specs.Nets.Row.{NoRow}
use Rattle.mc_forward.specs.Assembling.{rows_by_tables, vifs_by_tables}
use Rattle.mc_forward.specs.Domains.{TablesValue, row_in_cache, vif_of}

-- the vif of a router's tables
pub vif_of-vifs_by_tables : (tables : List TablesValue) (router vif : ℕ)
    → vif_of (vifs_by_tables tables) router vif
    ≡ option_and_then (λ own. finite.get own.vifs vif) (slice_get tables router)
vif_of-vifs_by_tables [] router vif = refl
vif_of-vifs_by_tables (own ∷ tables) zero vif = refl
vif_of-vifs_by_tables (own ∷ tables) (suc router) vif = vif_of-vifs_by_tables tables router vif

-- the row of tables for a flow, if there are both
abbrev pub row_at : Option TablesValue → Option Flow → Row
row_at None flow = NoRow
row_at (Some own) None = NoRow
row_at (Some own) (Some flow) = row_in_cache own.cache flow

-- a router's row for a flow, by its cache
rows_of_cache-at_flow : (own : TablesValue) (flows : List Flow) (flow : ℕ)
    → get_or (map (row_in_cache own.cache) flows) flow NoRow ≡ row_at (Some own) (slice_get flows flow)
rows_of_cache-at_flow own [] flow = refl
rows_of_cache-at_flow own (f ∷ flows) zero = refl
rows_of_cache-at_flow own (f ∷ flows) (suc flow) = rows_of_cache-at_flow own flows flow

-- so it is for each router
pub rows_by_tables-at_router : (flows : List Flow) (tables : List TablesValue) (flow router : ℕ)
    → get_or (get_or (rows_by_tables flows tables) router []) flow NoRow
    ≡ row_at (slice_get tables router) (slice_get flows flow)
rows_by_tables-at_router flows [] flow router = refl
rows_by_tables-at_router flows (own ∷ tables) flow zero = rows_of_cache-at_flow own flows flow
rows_by_tables-at_router flows (own ∷ tables) flow (suc router) =
    rows_by_tables-at_router flows tables flow router
