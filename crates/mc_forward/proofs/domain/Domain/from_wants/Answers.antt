use Rattle.std.proofs.Common.{List, length, ap, sym, subst, ◌∙◌}
use Rattle.std.specs.List.{AllByRecursion}
use Rattle.mc_forward.specs.Assembling.{domain_with}
use Rattle.mc_forward.specs.DomainParts.{AreDerivedTables}
use Rattle.mc_forward.specs.Domains.{VifsValue}
use Rattle.mc_forward.specs.RouterTables.{HaveRows, RouterTablesValue}
use Rattle.mc_forward.proofs.RowLemmas.{are_rows-from_each, map-same}
use Rattle.mc_forward.proofs.domain.Domain.from_wants.Goals as goal

-- The kept vifs and rows are those of the topology's routers, one row for each of its flows, so that
-- the look-up tables made of them are the domain's.
pub new-requires : goal.new-requires
new-requires c = record {
  valid = (
      let t = c.args.topology in
      let rows = c.tables.inside.rows.items in
      let wants = c.args.wants.items in
      let count = sym c.tables.invariant.routers
      ∙ ap (λ (k : RouterTablesValue). length k.vifs) c.tables.view_is ∙ c.requires.tables.routers in
      let flows = ap (λ (k : RouterTablesValue). k.flows) c.tables.view_is ∙ c.requires.tables.flows in
      let each = subst (λ n. AllByRecursion (HaveRows n) rows) flows c.tables.invariant.rows in
      subst (λ (vifs : List VifsValue). AreDerivedTables (domain_with t vifs rows wants)
      c.in_ok-derived.derived.vif_lans.items c.in_ok-derived.derived.interfaces.items)
      (map-same c.deref.result.now ∙ c.deref.ensures.value)
      (c.in_ok-derived.ensures rows wants (are_rows-from_each t rows count each) c.requires.answers));
}
