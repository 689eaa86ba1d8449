use Rattle.mc_input.proofs.AskedOfFilesLemmas.{IsAskedOf-unique}
use Rattle.mc_input.proofs.laws.asked_is_unique.Goals as goal

-- The files are read as one list of reports and one cache for each LAN and router, and what is asked
-- is computed from these.
pub returns : goal.returns
returns c = IsAskedOf-unique
