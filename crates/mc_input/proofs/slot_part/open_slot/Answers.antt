use Rattle.std.proofs.Common.{sym, refl}
use Rattle.mc_text.proofs.StepLemmas.{on_ok_map}
use Rattle.mc_files.specs.Layout.{part_name, slots}
use Rattle.mc_input.proofs.ReadRestLemmas.{IsFaultOf-check_names_from}
use Rattle.mc_input.proofs.slot_part.open_slot.Goals as goal

-- The slot with the number is the one whose name the part has.
pub returns-clause-opened : goal.returns-clause-opened
returns-clause-opened g c =
    on_ok_map c.open_named.result c.open_named.ensures.opened
    (λ opened. (part_name c.in-Some.slot, opened, (c.in-Some.slot, sym c.in-Some.ensures, refl)))

-- The check of the names from a slot on begins with that of its own.
pub returns-clause-fault : goal.returns-clause-fault
returns-clause-fault g c =
    IsFaultOf-check_names_from (slots c.args.certified c.args.topology.now) c.args.parts.now c.args.number
    c.in-Some.slot c.open_named.result (sym c.in-Some.ensures) c.open_named.ensures.fault
