use Rattle.std.proofs.Common.{◌≡◌, drop, Some}
use Rattle.mc_theory.specs.Reasons.{feeds_from}
use Rattle.mc_forward.specs.Domains.{oif_pairs}
use Rattle.mc_check.proofs.fed.feeds.Given as goal

-- no oif so far feeds the LAN, so one that is left does if any does
abbrev pub invariant-loop-oif : goal.invariant-loop-oif
invariant-loop-oif l = feeds_from l.fn.vif (oif_pairs (drop l.oif-index l.oif-items)) (Some l.fn.base)
    ≡ feeds_from l.fn.vif (oif_pairs l.fn.entry.oifs) (Some l.fn.base)
