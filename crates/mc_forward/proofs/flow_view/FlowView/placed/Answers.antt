use Rattle.std.proofs.Common.{sym, arith}
use Rattle.mc_forward.proofs.UnknownRouterLemmas.{placed_of-none_past_last_router}
use Rattle.mc_forward.proofs.flow_view.FlowView.placed.Goals as goal

-- A domain has vif tables for its own routers alone, so that no vif of another router is placed.
pub returns-else-router-routers-clause-lan : goal.returns-else-router-routers-clause-lan
returns-else-router-routers-clause-lan c =
    sym (placed_of-none_past_last_router c.args.self.now.domain c.routers.ensures.rules.domain.vifs
    c.args.router c.args.vif
    (omega (arith, c.routers.ensures.count)))
