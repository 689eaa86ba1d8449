use Rattle.mc_files.proofs.SlotLemmas.{HasPartName-slots}
use Rattle.mc_files.proofs.laws.slot_names_are_part_names.Goals as goal

-- A slot's name is the word of its kind, and behind a slash the name of a router or LAN, which a valid
-- topology bounds in its letters and its length.
pub returns : goal.returns
returns c = HasPartName-slots
