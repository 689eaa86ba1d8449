use Rattle.std.proofs.Common.{◌≡◌, map, length, take}
use Rattle.std.specs.Prelude.{option_and_then}
use Rattle.std.specs.FinMap.{get}
use Rattle.mc_theory.specs.Lists.{below}
use Rattle.mc_forward.specs.Domains.{lan_of_vif}
use Rattle.mc_forward.proofs.vif_lans.vif_lans_of_router.Given as goal

-- The places so far have the LANs of their vifs.
abbrev pub invariant-loop-vif : goal.invariant-loop-vif
invariant-loop-vif l = record {
  size : length l.vif_lans ≡ 32;
  done : take l.vif l.vif_lans ≡ map (λ vif. option_and_then (lan_of_vif l.fn.topology l.fn.router)
      (get l.fn.vifs vif)) (below l.vif);
}
