use Rattle.std.proofs.Common.{◌≡◌, None}
use Rattle.mc_theory.specs.Lists.{below}
use Rattle.mc_theory.specs.Reasons.{first_of, open_row_reason}
use Rattle.mc_forward.specs.FlightsInDomain.{net_in}
use Rattle.mc_check.proofs.routers.wildcard_reason.Given as goal

-- no vif so far is placed on a LAN that has an entry
abbrev pub invariant-loop-vif : goal.invariant-loop-vif
invariant-loop-vif l = first_of (open_row_reason (net_in l.fn.view) l.fn.by_lan l.fn.router)
    (below l.vif) ≡ None
