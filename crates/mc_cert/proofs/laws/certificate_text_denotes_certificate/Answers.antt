use Rattle.mc_cert.proofs.WrittenCertificates.{certificate_json-denotes}
use Rattle.mc_cert.proofs.laws.certificate_text_denotes_certificate.Goals as goal

-- JSON's reader gives back the objects that were written, and each part of them denotes what it was written
-- of.
pub returns : goal.returns
returns c = λ t flows rules writable few.
    certificate_json-denotes t flows rules writable.belongs writable.lists writable.bytes few
