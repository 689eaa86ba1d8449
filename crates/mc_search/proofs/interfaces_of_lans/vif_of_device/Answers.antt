-- Vif by vif.
use Rattle.std.proofs.Common.{ℕ, refl, sym, ◌∙◌}
use Rattle.mc_theory.specs.Lists.{below}
use Rattle.mc_forward.specs.Domains.{vif_of}
use Rattle.mc_search.specs.TopologyLans.{vif_has_device}
use Rattle.mc_search.proofs.BucketLemmas.{find_below-first, find_below-none_more}
use Rattle.mc_search.proofs.interfaces_of_lans.vif_of_device.Goals as goal

-- Before the first vif none has the device.
pub loop-vif-init : goal.loop-vif-init
unfolding below
loop-vif-init c = refl

-- No lower vif has the device, so this one is the first.
pub returns-then-vif_has_device : goal.returns-then-vif_has_device
returns-then-vif_has_device c =
    sym (find_below-first
    (λ (v : ℕ). vif_has_device c.args.device.now (vif_of c.args.domain.now.vifs c.args.router v))
    c.loop-vif.vif 32 c.loop-vif.invariant (sym c.vif_has_device.ensures ∙ c.if-vif_has_device.true)
    c.loop-vif-test.true)

-- This vif hasn't the device either.
pub loop-vif-preserved : goal.loop-vif-preserved
loop-vif-preserved c =
    find_below-none_more (λ (v : ℕ). vif_has_device c.args.device.now (vif_of c.args.domain.now.vifs
    c.args.router v))
    c.loop-vif.vif c.loop-vif.invariant (sym c.vif_has_device.ensures ∙ c.if-vif_has_device.false)
