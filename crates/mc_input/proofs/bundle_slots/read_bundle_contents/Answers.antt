use Rattle.std.proofs.Common.{◌∙◌}
use Rattle.std.proofs.lemmas.Result.{err_from_is_err_and}
use Rattle.mc_bundle.proofs.RestOfBundleLemmas.{advances_trans}
use Rattle.mc_input.specs.InputView.{certificate_text}
use Rattle.mc_input.specs.Stream.{input_of_contents, read_after_topology, read_contents}
use Rattle.mc_input.proofs.BundleContentsLemmas.{read_after_topology-Ok, read_after_topology-contents_Err}
use Rattle.mc_input.proofs.BundleContentsLemmas.{read_after_topology-end_Err}
use Rattle.mc_input.proofs.MeansLemmas.{is_some-certificate_text}
use Rattle.mc_input.proofs.WalkLemmas.{IsFaultOfStream-implied}
use Rattle.mc_input.proofs.bundle_slots.read_bundle_contents.Goals as goal

-- The tables and reports come before the certificate, so that their first fault is that of all.
pub returns-in_err-kept-clause-fault : goal.returns-in_err-kept-clause-fault
returns-in_err-kept-clause-fault g c =
    let p = err_from_is_err_and c.from_residual-in_err-kept.result c.from_residual-in_err-kept.ensures.1 in
    let t = c.args.topology.now in
    let s = c.args.slots.now in
    rw (p.1, p.2) (IsFaultOfStream-implied (read_contents t) (read_after_topology s.certified t)
    (read_after_topology-contents_Err s.certified t) _ c.in_err-kept.field-0.0 c.in_err-kept.ensures.fault)

-- All before the certificate was read, so that what refuses the rest refuses the whole.
pub returns-in_err-certificate-clause-fault : goal.returns-in_err-certificate-clause-fault
returns-in_err-certificate-clause-fault g c =
    let p = err_from_is_err_and c.from_residual-in_err-certificate.result
    c.from_residual-in_err-certificate.ensures.1 in
    let t = c.args.topology.now in
    let s = c.args.slots.now in
    rw (p.1, p.2) (λ stream known loud.
    let x = c.in_ok-kept.ensures.read stream known in
    read_after_topology-end_Err s.certified t stream x.0 x.1 c.in_err-certificate.field-0.0 x.6
    (c.in_err-certificate.ensures.fault x.0 x.2 loud))

-- One call after another reads on from where the first stopped.
pub returns-in_err-certificate-clause-advances : goal.returns-in_err-certificate-clause-advances
returns-in_err-certificate-clause-advances g c =
    advances_trans c.args.slots.now.parts c.read_contents.new.slots.parts c.read_certificate_and_end.new.parts
    c.in_ok-kept.ensures.advances.1 c.in_err-certificate.ensures.advances

-- The contents are read from the stream, the certificate from what they leave of it, and there is one
-- exactly where one was asked for.
pub returns-clause-read : goal.returns-clause-read
returns-clause-read g c = λ stream known.
    let t = c.args.topology.now in
    let s = c.args.slots.now in
    let x = c.in_ok-kept.ensures.read stream known in
    let text = certificate_text c.in_ok-certificate.certificate in (
      input_of_contents t x.1,
      x.3,
      read_after_topology-Ok s.certified t stream x.0 x.1 text x.6
          (c.in_ok-certificate.ensures.certificate x.0 x.2)
          (is_some-certificate_text c.in_ok-certificate.certificate ∙ c.in_ok-certificate.ensures.certified
          ∙ c.in_ok-kept.ensures.advances.0),
    )

-- Whether a certificate is asked for is the same before and after the contents are read.
pub returns-clause-certified : goal.returns-clause-certified
returns-clause-certified g c = c.in_ok-certificate.ensures.certified ∙ c.in_ok-kept.ensures.advances.0

pub returns-clause-advances : goal.returns-clause-advances
returns-clause-advances g c =
    advances_trans c.args.slots.now.parts c.read_contents.new.slots.parts c.read_certificate_and_end.new.parts
    c.in_ok-kept.ensures.advances.1 c.in_ok-certificate.ensures.advances
