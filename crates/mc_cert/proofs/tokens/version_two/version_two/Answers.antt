use Rattle.std.proofs.Common.{arith}
use Rattle.mc_cert.specs.declared.version.Version.TheVariants.{Two}
use Rattle.mc_cert.proofs.FieldLemmas.{HoldsVersionTwo-none, DenotesCertificate-from_IsVersion}
use Rattle.mc_cert.proofs.tokens.version_two.version_two.Goals as goal

-- Of an object without members no field was read, and a certificate nests less deep than JSON's reader
-- allows.
pub read_document-requires : goal.read_document-requires
read_document-requires c = rw c.new.ensures (record {
  empty = HoldsVersionTwo-none c.args.topology.now;
  shallow = omega arith;
})

-- The fields were read of the text's object.
pub certificate-requires : goal.certificate-requires
certificate-requires c = let (ms, reads, held) = c.in_ok-fields.ensures in record { read = (ms, held) }

-- The text's object keeps the rules of version 2, and they make up the denotation.
pub returns : goal.returns
returns c =
    let (ms, reads, held) = c.in_ok-fields.ensures in
    record {
      denotes = DenotesCertificate-from_IsVersion Two c.args.topology.now c.args.text.now ms
          c.in_ok-certificate.certificate c.requires.few c.utf8.text reads
          (c.in_ok-certificate.ensures ms held);
    }
