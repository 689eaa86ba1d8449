use Rattle.mc_cert.proofs.ReadLemmas.{DenotesCertificate-unique}
use Rattle.mc_cert.proofs.CertificateTexts.{parse_certificate-denotes, parse_certificate-from_denotes}
use Rattle.mc_cert.proofs.laws.read_gives_the_denoted_certificate.Goals as goal

-- What reading checks step by step are the rules of the denotation, each once.
pub returns-clause-read : goal.returns-clause-read
returns-clause-read c = λ t text flows. (
  (λ e. parse_certificate-denotes t text flows e),
  λ denotes. parse_certificate-from_denotes t text flows denotes,
)

-- Each value denotes one thing at most, from the names up to the whole text.
pub returns-clause-unique : goal.returns-clause-unique
returns-clause-unique c = DenotesCertificate-unique
