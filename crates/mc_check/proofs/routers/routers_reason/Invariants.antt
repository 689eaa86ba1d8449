use Rattle.std.proofs.Common.{◌≡◌, None, length}
use Rattle.mc_theory.specs.Lists.{below}
use Rattle.mc_theory.specs.Reasons.{first_of, row_reason}
use Rattle.mc_forward.specs.FlightsInDomain.{net_in}
use Rattle.mc_check.specs.FedLans.{AreFed}
use Rattle.mc_check.proofs.routers.routers_reason.Given as goal

-- the routers so far are right, and the LANs that are marked are fed
abbrev pub invariant-loop-number : goal.invariant-loop-number
invariant-loop-number l =
    record {
      reasons : first_of (λ router. row_reason (net_in l.fn.view) l.fn.by_lan router
          ((net_in l.fn.view).row router)) (below l.number) ≡ None;
      lans : length l.fed.items ≡ length l.fn.view.domain.topology.lans;
      fed : AreFed (net_in l.fn.view) l.fn.by_lan l.fed.items;
    }
