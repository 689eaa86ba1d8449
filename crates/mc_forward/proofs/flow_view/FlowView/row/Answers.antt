use Rattle.std.proofs.Common.{sym, arith}
use Rattle.mc_forward.proofs.UnknownRouterLemmas.{row_of-none_past_last_router}
use Rattle.mc_forward.proofs.flow_view.FlowView.row.Goals as goal

-- A domain has rows for its own routers alone, so that any other router has no row.
pub returns-else-router-routers-clause-row : goal.returns-else-router-routers-clause-row
returns-else-router-routers-clause-row c =
    sym (row_of-none_past_last_router c.args.self.now.domain c.routers.ensures.rules.domain.rows
    c.args.self.now.flow c.args.router
    (omega (arith, c.routers.ensures.count)))
