use Rattle.std.proofs.Common.{Some, ap, subst, sym, ◌∙◌}
use Rattle.std.proofs.lemmas.Result.{err_from_is_err_and}
use Rattle.mc_cert.proofs.BelongsLemmas.{BelongsTo-from_denotes}
use Rattle.mc_cert.specs.Certificate.{BelongsTo}
use Rattle.mc_input.specs.InputView.{certificate_text}
use Rattle.mc_commands.proofs.CheckLemmas.{is_refused_for-cert_fault, means_certified-denoted_lists}
use Rattle.mc_commands.proofs.FaultLemmas.{is_fault_of_check-cert_fault}
use Rattle.mc_commands.proofs.check.with_certificate.Goals as goal

-- The certificate's text is the one that the bundle has, and its first fault is the bundle's, whose other
-- parts are right.
pub returns-in_err-certificate-clause-refused : goal.returns-in_err-certificate-clause-refused
returns-in_err-certificate-clause-refused c = λ text means.
    let p = err_from_is_err_and c.from_residual.result c.from_residual.ensures.1 in
    let there = ap certificate_text c.in-Some.is ∙ ap Some (sym c.deref.ensures.value) in
    rw (p.1, p.2) (is_refused_for-cert_fault text c.deref.result.now _ c.args.read.domain
    c.topology.result.now c.in_err-certificate.field-0.0 means there c.topology.ensures.topology
    c.in_err-certificate.ensures.fault)

-- The lists are those that the bundle's certificate denotes for the bundle's topology.
pub returns-clause-means : goal.returns-clause-means
returns-clause-means c = λ text means.
    let there = ap certificate_text c.in-Some.is ∙ ap Some (sym c.deref.ensures.value) in
    means_certified-denoted_lists text c.deref.result.now _ c.args.read.domain c.topology.result.now
    c.in_ok-certificate.certificate means there c.topology.ensures.topology
    c.in_ok-certificate.ensures.found

-- What a certificate denotes for a topology belongs to it.
pub returns-clause-belongs : goal.returns-clause-belongs
returns-clause-belongs c =
    let belongs = BelongsTo-from_denotes c.topology.result.now c.deref.result.now
    c.in_ok-certificate.certificate c.in_ok-certificate.ensures.found in
    subst (λ t. BelongsTo t c.in_ok-certificate.certificate) c.topology.ensures.topology belongs

-- Whatever its kind, a refused certificate is one of the faults of `check`.
pub returns-in_err-certificate-clause-faults : goal.returns-in_err-certificate-clause-faults
returns-in_err-certificate-clause-faults c =
    let p = err_from_is_err_and c.from_residual.result c.from_residual.ensures.1 in
    rw (p.1, p.2) (is_fault_of_check-cert_fault c.in_err-certificate.field-0.0
    c.in_err-certificate.field-0.0.kind)
