use Rattle.std.proofs.Common.{◌+◌, ◌*◌, ◌∙◌, Some, ap, arith, false, sym}
use Rattle.mc_files.specs.Layout.{first_lan_number}
use Rattle.mc_files.proofs.SlotLemmas.{slots-reports_slot}
use Rattle.mc_files.proofs.numbered_slot.NumberedSlot.reports.Goals as goal

-- The slot of this number is the LAN's: one slot of each LAN follows those of the routers.
pub invariant_of-result : goal.invariant_of-result
invariant_of-result c = (
  omega (
    arith,
    c.requires.known,
    c.lan.view_is,
    c.first_lan_slot_number.ensures.value,
    c.first_lan_slot_number.ensures.rules.few_routers,
    c.first_lan_slot_number.ensures.rules.few_lans,
  ),
  slots-reports_slot false c.args.topology.now (c.first_lan_slot_number.result + c.lan.inside.0)
      c.args.lan c.lan_name.result.now
      (omega (arith, c.first_lan_slot_number.ensures.value, c.lan.view_is))
      c.lan_name.ensures.name ∙ ap Some (sym c.reports.ensures.value),
)

-- The same for the LAN's name as the topology has it.
pub returns-clause-slot : goal.returns-clause-slot
returns-clause-slot c = λ name at.
    slots-reports_slot false c.args.topology.now (c.first_lan_slot_number.result + c.lan.inside.0)
    c.args.lan name (omega (arith, c.first_lan_slot_number.ensures.value, c.lan.view_is)) at
