use Rattle.mc_input.proofs.UniqueInput.{DenotesInput-from_packed}
use Rattle.mc_input.proofs.laws.packed_bundle_denotes_input_of_files.Goals as goal

-- The parts that are packed are those by which the files denote their input, and a text is one bundle
-- of parts.
pub returns : goal.returns
returns c = λ files parts text v h p bundle. DenotesInput-from_packed files parts text v h p bundle
