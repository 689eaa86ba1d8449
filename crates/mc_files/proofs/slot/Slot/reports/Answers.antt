use Rattle.mc_files.proofs.SlotLemmas.{HasPartName-reports_slot}
use Rattle.mc_files.proofs.slot.Slot.reports.Goals as goal

-- A kind's word, a slash and a valid name are few enough bytes, and of the right ones, for a part's name.
pub invariant_of-result : goal.invariant_of-result
invariant_of-result c = HasPartName-reports_slot c.args.lan.now c.requires.valid
