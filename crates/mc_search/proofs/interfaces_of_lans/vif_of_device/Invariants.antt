use Rattle.std.proofs.Common.{◌≡◌, ℕ, None, find}
use Rattle.mc_theory.specs.Lists.{below}
use Rattle.mc_forward.specs.Domains.{vif_of}
use Rattle.mc_search.specs.TopologyLans.{vif_has_device}
use Rattle.mc_search.proofs.interfaces_of_lans.vif_of_device.Given as goal

-- no vif so far has the device
abbrev pub invariant-loop-vif : goal.invariant-loop-vif
invariant-loop-vif l =
    find (λ (v : ℕ). vif_has_device l.fn.device (vif_of l.fn.domain.vifs l.fn.router v)) (below l.vif)
    ≡ None
