use Rattle.std.proofs.Common.{◌/◌, ap, sym, ◌∙◌, Some, arith}
use Rattle.mc_files.proofs.SlotLemmas.{slice_get-vif_slot, slice_get-cache_slot}
use Rattle.mc_files.proofs.slot_order.router_slot.Goals as goal

-- Each router has two slots, so that half of the number is the router; the even one is of its vifs.
pub returns-then-number-eq0 : goal.returns-then-number-eq0
returns-then-number-eq0 c = record {
  item = (λ more.
      slice_get-vif_slot more c.args.topology.now.routers (c.args.number / 2) c.args.number
      c.router_name-router.result.now (omega (arith, c.if-number-eq0.true))
      c.router_name-router.ensures.name
      ∙ ap Some (sym c.vifs.ensures.value));
}

-- The odd one is of its cache.
pub returns : goal.returns
returns c = record {
  item = (λ more.
      slice_get-cache_slot more c.args.topology.now.routers (c.args.number / 2) c.args.number
      c.router_name-router.result.now (omega (arith, c.if-number-eq0.false))
      c.router_name-router.ensures.name
      ∙ ap Some (sym c.cache.ensures.value));
}
