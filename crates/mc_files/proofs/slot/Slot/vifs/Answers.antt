use Rattle.mc_files.proofs.SlotLemmas.{HasPartName-vif_slot}
use Rattle.mc_files.proofs.slot.Slot.vifs.Goals as goal

-- A kind's word, a slash and a valid name are few enough bytes, and of the right ones, for a part's name.
pub invariant_of-result : goal.invariant_of-result
invariant_of-result c = HasPartName-vif_slot c.args.router.now c.requires.valid
