use Rattle.std.proofs.Common.{◌+◌, ◌*◌, ◌∙◌, Some, ap, arith, false, sym}
use Rattle.std.specs.Prelude.{option_map}
use Rattle.mc_files.specs.Layout.{vif_slot}
use Rattle.mc_files.proofs.SlotLemmas.{slots-vif_slot}
use Rattle.mc_files.proofs.numbered_slot.NumberedSlot.vifs.Goals as goal

-- The slot of this number is the router's vif table: two slots of each router follow the topology's.
pub invariant_of-result : goal.invariant_of-result
invariant_of-result c = (
  omega (arith, c.requires.few, c.router.view_is),
  slots-vif_slot false c.args.topology.now (1 + 2 * c.router.inside.0) c.args.router
      c.router_name.result.now (omega (arith, c.router.view_is)) c.router_name.ensures.name
      ∙ ap Some (sym c.vifs.ensures.value),
)

-- The same for the router's name as the topology has it.
pub returns-clause-slot : goal.returns-clause-slot
returns-clause-slot c = λ r at.
    slots-vif_slot false c.args.topology.now (1 + 2 * c.router.inside.0) c.args.router r.name
    (omega (arith, c.router.view_is)) (ap (option_map (λ r. r.name)) at)
