use Rattle.mc_input.proofs.UniqueInput.{DenotesInput-unique}
use Rattle.mc_input.proofs.laws.bundle_denotes_one_input.Goals as goal

-- A text is one bundle of parts, and each part's text has one value.
pub returns-clause-input : goal.returns-clause-input
returns-clause-input c = λ text a b m n is h k. (DenotesInput-unique text a b m n is h k).0

-- The certificate is the part after those of the LANs.
pub returns-clause-certificate : goal.returns-clause-certificate
returns-clause-certificate c = λ text a b m n is h k. (DenotesInput-unique text a b m n is h k).1
