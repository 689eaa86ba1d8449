use Rattle.std.proofs.Common.{◌≡◌, ◌==◌, drop}
use Rattle.std.specs.List.{list_any}
use Rattle.mc_explain.proofs.causes.behind.has_router.Given as goal

-- none so far is the router, so it is among them exactly if it is among those that are left
abbrev pub invariant-loop-it : goal.invariant-loop-it
invariant-loop-it l = list_any (λ r. r == l.fn.router) (drop l.it-index l.routers)
    ≡ list_any (λ r. r == l.fn.router) l.routers
