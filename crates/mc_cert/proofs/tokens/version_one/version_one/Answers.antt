use Rattle.std.proofs.Common.{arith}
use Rattle.mc_cert.specs.declared.version.Version.TheVariants.{One}
use Rattle.mc_cert.proofs.FieldLemmas.{HoldsVersionOne-none, DenotesCertificate-from_IsVersion}
use Rattle.mc_cert.proofs.tokens.version_one.version_one.Goals as goal

-- Of an object without members no field was read, and a certificate nests less deep than JSON's reader
-- allows.
pub read_document-requires : goal.read_document-requires
read_document-requires c = rw c.new.ensures (record {
  empty = HoldsVersionOne-none c.args.topology.now;
  shallow = omega arith;
})

-- The fields were read of the text's object.
pub certificate-requires : goal.certificate-requires
certificate-requires c = let (ms, reads, held) = c.in_ok-fields.ensures in record { read = (ms, held) }

-- The text's object keeps the rules of version 1, and they make up the denotation.
pub returns : goal.returns
returns c =
    let (ms, reads, held) = c.in_ok-fields.ensures in
    DenotesCertificate-from_IsVersion One c.args.topology.now c.args.text.now ms
    c.in_ok-certificate.certificate c.requires.few c.utf8.text reads (c.in_ok-certificate.ensures ms held)
