use Rattle.std.proofs.Common.{◌≡◌, drop}
use Rattle.std.specs.Prelude.{fold}
use Rattle.mc_forward.specs.FlightsInDomain.{net_in}
use Rattle.mc_explain.specs.Behind.{open_routers, with_open_router}
use Rattle.mc_explain.proofs.causes.behind.routers_with_open_rows.Given as goal

-- the routers so far, with those of the strays that are left, are all
abbrev pub invariant-loop-stray : goal.invariant-loop-stray
invariant-loop-stray l =
    fold (with_open_router (net_in l.fn.view)) l.routers.items (drop l.stray-index l.strays)
    ≡ open_routers (net_in l.fn.view) l.strays
