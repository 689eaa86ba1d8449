use Rattle.std.proofs.Common.{◌≡◌, drop, length}
use Rattle.mc_theory.specs.Reasons.{first_of, pair_reason}
use Rattle.mc_forward.specs.Domains.{oif_pairs}
use Rattle.mc_forward.specs.FlightsInDomain.{net_in}
use Rattle.mc_check.specs.FedLans.{AreFed}
use Rattle.mc_check.proofs.routers.pairs_reason.Given as goal

-- the oifs so far are right, so the first reason is that of the oifs that are left
abbrev pub invariant-loop-oif : goal.invariant-loop-oif
invariant-loop-oif l =
    record {
      reasons : first_of (pair_reason (net_in l.fn.view) l.fn.by_lan l.fn.base l.fn.router)
          (oif_pairs (drop l.oif-index l.fn.oifs))
          ≡ first_of (pair_reason (net_in l.fn.view) l.fn.by_lan l.fn.base l.fn.router)
          (oif_pairs l.fn.oifs);
      lans : length l.fed.items ≡ length l.fn.view.domain.topology.lans;
      fed : AreFed (net_in l.fn.view) l.fn.by_lan l.fed.items;
    }
