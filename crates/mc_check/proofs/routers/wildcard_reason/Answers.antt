use Rattle.std.proofs.Common.{◌≡◌, Bool, true, false, not, is_some, sym, ap}
use Rattle.mc_theory.specs.Reasons.{open_row_reason, entry_at, unless}
use Rattle.mc_theory.specs.Reasons.Reason.{Wildcard}
use Rattle.mc_forward.specs.FlightsInDomain.{net_in}
use Rattle.mc_check.proofs.BelowLemmas.{first_of-below_none, first_of-none_more, first_of-found_at}
use Rattle.mc_check.proofs.routers.wildcard_reason.Goals as goal

-- Before the first vif there is none on a named LAN.
pub loop-vif-init : goal.loop-vif-init
loop-vif-init c = first_of-below_none _

-- The vif is placed on a LAN that has an entry, and no lower vif is: it is the lowest.
pub returns-then-is_some : goal.returns-then-is_some
returns-then-is_some c =
    let n = net_in c.args.view.now in
    let e : is_some (entry_at c.args.by_lan.now (n.placed c.args.router c.loop-vif.vif)) ≡ true =
    cc in
    sym (first_of-found_at (open_row_reason n c.args.by_lan.now c.args.router) c.loop-vif.vif 32 _
    c.loop-vif.invariant
    (ap (λ (b : Bool). unless (not b) (Wildcard c.args.router c.loop-vif.vif)) e)
    c.loop-vif-test.true)

-- A vif whose LAN has no entry is no reason against a wildcard entry.
pub loop-vif-preserved : goal.loop-vif-preserved
loop-vif-preserved c =
    let n = net_in c.args.view.now in
    let e : is_some (entry_at c.args.by_lan.now (n.placed c.args.router c.loop-vif.vif)) ≡ false =
    cc in
    first_of-none_more (open_row_reason n c.args.by_lan.now c.args.router) c.loop-vif.vif c.loop-vif.invariant
    (ap (λ (b : Bool). unless (not b) (Wildcard c.args.router c.loop-vif.vif)) e)
