use Rattle.std.proofs.Common.{◌≡◌, ◌+◌, drop}
use Rattle.mc_search.specs.BucketsAndMarks.{leading_of_router}
use Rattle.mc_search.proofs.routers_on_lan.leading_of_router.Given as goal

-- all interfaces so far are the router's, so the count is theirs and that of the leading ones left
abbrev pub invariant-loop-index : goal.invariant-loop-index
invariant-loop-index l =
    l.index + leading_of_router l.fn.router (drop l.index l.fn.interfaces) ≡ leading_of_router l.fn.router
    l.fn.interfaces
