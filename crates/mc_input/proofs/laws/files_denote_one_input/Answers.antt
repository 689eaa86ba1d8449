use Rattle.mc_input.proofs.UniqueInput.{FilesDenoteInput-unique}
use Rattle.mc_input.proofs.laws.files_denote_one_input.Goals as goal

-- The files are packed as one list of parts, and parts denote one input.
pub returns : goal.returns
returns c = λ files a b h k. FilesDenoteInput-unique files a b h k
