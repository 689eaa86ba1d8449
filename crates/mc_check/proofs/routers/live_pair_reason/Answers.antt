use Rattle.std.proofs.Common.{true, subst, sym}
use Rattle.std.specs.Prelude.{slice_set}
use Rattle.mc_forward.specs.FlightsInDomain.{net_in}
use Rattle.mc_check.specs.FedLans.{AreFed}
use Rattle.mc_check.proofs.FedLemmas.{are_fed-marked}
use Rattle.mc_check.proofs.routers.live_pair_reason.Goals as goal

-- The entry of the LAN that the oif sends onto is fed by it, if nothing is wrong with that.
pub returns-clause-fed : goal.returns-clause-fed
returns-clause-fed c =
    let n = net_in c.args.view.now in
    subst (λ lan. AreFed n c.args.by_lan.now (slice_set c.args.fed.now.items lan true)) (sym c.lan.view_is)
    (are_fed-marked n c.args.by_lan.now c.args.fed.now.items c.args.base.now c.args.router c.in-Some.lan
    (c.args.oif.now.vif, c.args.oif.now.threshold) c.requires.fed
    (sym c.in_default-child_reason.ensures.reason) c.requires.feeds (sym c.in-Some.ensures.lan))
