use Rattle.std.proofs.Common.{refl, ◌∙◌, arith}
use Rattle.std.proofs.lemmas.List.{length-set}
use Rattle.mc_theory.specs.Lists.{below}
use Rattle.mc_forward.proofs.VifLanLemmas.{take_set-map_below_more}
use Rattle.mc_forward.proofs.vif_lans.vif_lans_of_router.Goals as goal

-- Before the first vif none is placed, in a list of 32.
pub loop-vif-init : goal.loop-vif-init
unfolding below
loop-vif-init c = record { size = refl; done = refl }

-- The LAN of this vif is set at its own place, behind those of the vifs before it.
pub loop-vif-preserved : goal.loop-vif-preserved
loop-vif-preserved c = record {
  size = length-set c.loop-vif.vif_lans c.loop-vif.vif c.lan_of_vif_number.result ∙ c.loop-vif.invariant.size;
  done = take_set-map_below_more _ c.loop-vif.vif_lans c.loop-vif.vif c.lan_of_vif_number.result
      (omega (arith, c.loop-vif.invariant.size)) c.loop-vif.invariant.done c.lan_of_vif_number.ensures;
}
