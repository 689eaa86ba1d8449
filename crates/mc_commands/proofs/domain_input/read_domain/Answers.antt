use Rattle.std.proofs.Common.{false}
use Rattle.std.proofs.lemmas.Result.{err_from_is_err_and}
use Rattle.mc_commands.proofs.RunInputLemmas.{means_domain-no_certificate, is_refused_for-source_of_contents}
use Rattle.mc_commands.proofs.FaultLemmas.{is_fault_of_make-source_fault}
use Rattle.mc_commands.proofs.domain_input.read_domain.Goals as goal

-- The first fault of the source of parts is that of the bundle.
pub returns-in_err-read-clause-refused : goal.returns-in_err-read-clause-refused
returns-in_err-read-clause-refused g c =
    let p = err_from_is_err_and c.from_residual.result c.from_residual.ensures.1 in
    rw (p.1, p.2) (is_refused_for-source_of_contents (g.R.Input.remaining c.args.input.now) false
    c.in_err-read.field-0.0
    c.in_err-read.ensures.fault)

-- No certificate was asked for, so that the bundle means the domain without one.
pub returns-clause-means : goal.returns-clause-means
returns-clause-means g c =
    means_domain-no_certificate (g.R.Input.remaining c.args.input.now) c.in_ok-read.read.certificate
    c.in_ok-read.read.domain c.in_ok-read.ensures.certified c.in_ok-read.ensures.means

-- Each fault of reading is one that `make` may return.
pub returns-in_err-read-clause-faults : goal.returns-in_err-read-clause-faults
returns-in_err-read-clause-faults g c =
    let p = err_from_is_err_and c.from_residual.result c.from_residual.ensures.1 in
    rw (p.1, p.2) (is_fault_of_make-source_fault c.in_err-read.field-0.0)
