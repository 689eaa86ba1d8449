use Rattle.std.proofs.Common.{ℕ, get_or, ap, subst, arith, ◌∙◌}
use Rattle.mc_forward.specs.Domains.{DomainValue, IsDomain}
use Rattle.mc_forward.proofs.RowLemmas.{rows_of_router-at_index, row_of-rows_of_router}
use Rattle.mc_forward.proofs.RowLemmas.{has_valid_entry-from_row_value}
use Rattle.mc_forward.proofs.domain.Domain.entry.Goals as goal

-- In a domain each router has one row for each flow.
pub row-requires : goal.row-requires
row-requires c = record {
  listed_flow = (
      let d = c.args.self.now in
      let own = c.index-rows.result.now in
      let ok = subst IsDomain c.self.view_is c.self.invariant.domain in
      let at = rows_of_router-at_index d own c.args.router ok c.requires.router
      (c.index-rows.ensures
      ∙ ap (λ (k : ℕ). get_or c.self.inside.rows.items k own) c.router.view_is
      ∙ ap (λ (e : DomainValue). get_or e.rows c.args.router own) c.self.view_is) in
      omega (arith, c.requires.flow, ok.rows.flows c.args.router own at));
}

-- The router's rows are read at the router's own number, and its row at the flow's.
pub returns-clause-row : goal.returns-clause-row
returns-clause-row c =
    let d = c.args.self.now in
    let own = c.index-rows.result.now in
    let ok = subst IsDomain c.self.view_is c.self.invariant.domain in
    row_of-rows_of_router d c.args.router c.args.flow own _
    (rows_of_router-at_index d own c.args.router ok c.requires.router
    (c.index-rows.ensures
    ∙ ap (λ (k : ℕ). get_or c.self.inside.rows.items k own) c.router.view_is
    ∙ ap (λ (e : DomainValue). get_or e.rows c.args.router own) c.self.view_is))
    c.row.ensures.item

-- Every row of a domain is one that a kernel can have, so that an entry among them is valid.
pub returns-clause-valid : goal.returns-clause-valid
returns-clause-valid c =
    has_valid_entry-from_row_value c.args.self.now c.args.flow c.args.router c.row.result
    (subst IsDomain c.self.view_is c.self.invariant.domain) (returns-clause-row c)
