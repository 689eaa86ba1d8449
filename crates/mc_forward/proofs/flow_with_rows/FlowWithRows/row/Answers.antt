use Rattle.std.proofs.Common.{◌≡◌, ◌∙◌, Some, ap, arith}
use Rattle.std.specs.Prelude.{slice_get}
use Rattle.std.proofs.lemmas.Option.{gets}
use Rattle.std.proofs.lemmas.Grind.{common_steps}
use Rattle.mc_forward.specs.FlightsInDomain.{FlowOfDomain, net_in}
use Rattle.mc_forward.proofs.flow_with_rows.FlowWithRows.row.Goals as goal

-- Each row was read from the domain, where an entry is valid.
pub copy_row-requires : goal.copy_row-requires
copy_row-requires c = record {
  valid = (
      let found : slice_get c.self.inside.rows.items c.args.router ≡ Some c.in-Some.row.now =
      grind (arith, common_steps, gets) in
      (c.self.invariant c.args.router c.in-Some.row.now found).1);
}

-- The rows are kept by the routers' numbers, and each is the domain's for the flow.
pub returns-in-Some-clause-row : goal.returns-in-Some-clause-row
returns-in-Some-clause-row c =
    let found : slice_get c.self.inside.rows.items c.args.router ≡ Some c.in-Some.row.now =
    grind (arith, common_steps, gets) in
    c.copy_row.ensures.row ∙ (c.self.invariant c.args.router c.in-Some.row.now found).0
    ∙ ap (λ (f : FlowOfDomain). (net_in f).row c.args.router) c.self.view_is
