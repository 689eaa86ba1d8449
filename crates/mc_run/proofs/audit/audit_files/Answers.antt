use Rattle.std.proofs.Common.{ℕ, List, subst}
use Rattle.std.specs.Prelude.{IfSome}
use Rattle.mc_input.specs.AskedOfFiles.{IsAskedOf}
use Rattle.mc_input.specs.ExcludedRouters.{files_with_exclusions}
use Rattle.std.specs.String.{string_bytes}
use Rattle.mc_run.specs.AuditedFiles.{left_out}
use Rattle.mc_run.specs.AuditRun.{HasCounts, IsAudited}
use Rattle.mc_run.proofs.AuditTextLemmas.{of_domain-means_audited}
use Rattle.std.proofs.lemmas.Result.{err_from_is_err_and}
use Rattle.mc_commands.proofs.FaultLemmas.{is_fault_of_audit-exclusion_fault}
use Rattle.mc_run.proofs.audit.audit_files.Goals as goal

-- The domain, the summaries and the wants were read from the files without what is left out, and the ignored
-- ranges are a copy of the caller's. So the files mean what was audited.
pub returns-in-Ok-audit-clause-text : goal.returns-in-Ok-audit-clause-text
returns-in-Ok-audit-clause-text g c =
    let o = c.args.options in
    let left = left_out c.args.left.now in
    let contents = g.F.FileSource.contents c.args.files.now in
    let all = c.in-Ok-audit.audit.run_output.yes in
    let written = string_bytes c.in-Ok-audit.audit.run_output.text in
    let read = c.in_ok-read.read in
    of_domain-means_audited (λ v. IsAudited v o all written) o left contents read.domain
    read.summary.items read.asked
    c.in_ok-read.ensures.means c.in_ok-read.ensures.routers c.in_ok-read.ensures.summary
    (subst (λ (groups : List (ℕ × ℕ)). IfSome contents (λ files.
    IsAskedOf o.unlisted groups (files_with_exclusions left.routers files) read.domain read.asked))
    c.in-Ok.ensures.items c.in_ok-read.ensures.asked) c.in-Ok-audit.ensures.text

-- The counts are of the same audited value.
pub returns-in-Ok-audit-clause-counts : goal.returns-in-Ok-audit-clause-counts
returns-in-Ok-audit-clause-counts g c =
    let o = c.args.options in
    let left = left_out c.args.left.now in
    let contents = g.F.FileSource.contents c.args.files.now in
    let counts = c.in-Ok-audit.audit.counts in
    let read = c.in_ok-read.read in
    of_domain-means_audited (λ v. HasCounts v o counts) o left contents read.domain
    read.summary.items read.asked
    c.in_ok-read.ensures.means c.in_ok-read.ensures.routers c.in_ok-read.ensures.summary
    (subst (λ (groups : List (ℕ × ℕ)). IfSome contents (λ files.
    IsAskedOf o.unlisted groups (files_with_exclusions left.routers files) read.domain read.asked))
    c.in-Ok.ensures.items c.in_ok-read.ensures.asked) c.in-Ok-audit.ensures.counts

-- The fault of reading becomes the run's, and an audit may return each of these.
pub returns-in_err-read-clause-faults : goal.returns-in_err-read-clause-faults
returns-in_err-read-clause-faults g c =
    let p = err_from_is_err_and c.from_residual.result c.from_residual.ensures.1 in
    rw (p.1, p.2) (is_fault_of_audit-exclusion_fault c.in_err-read.field-0.0 c.in_err-read.ensures.faults)
