use Rattle.mc_files.proofs.SlotLemmas.{HasPlainFileName-slots}
use Rattle.mc_files.proofs.laws.packed_names_are_plain.Goals as goal

-- A file's name is the word of its kind, and behind a hyphen the name of a router or LAN, in which a valid
-- topology has only these bytes.
pub returns : goal.returns
returns c = HasPlainFileName-slots
