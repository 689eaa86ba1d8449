use Rattle.std.proofs.Common.{◌≡◌, ℕ, ◌<◌, map, slice_get, Some}
use Rattle.mc_tables.specs.VifLookups.{IsValidVifTable}
use Rattle.mc_theory.specs.Lists.{below}
use Rattle.mc_forward.specs.Domains.{VifsValue, placed_in}
use Rattle.mc_forward.proofs.vif_lans.vif_lans_of_routers.Given as goal

-- The lists so far are those of the routers so far, whose tables are valid.
abbrev pub invariant-loop-number : goal.invariant-loop-number
invariant-loop-number g l = record {
  done : l.vif_lans.items ≡ map (λ router. map (placed_in l.fn.topology (map g.T.HasVifs.vifs_of
      l.fn.tables) router) (below 32)) (below l.number);
  rules : (router : ℕ) (vifs : VifsValue) → router < l.number
      → slice_get (map g.T.HasVifs.vifs_of l.fn.tables) router ≡ Some vifs → IsValidVifTable vifs;
}
