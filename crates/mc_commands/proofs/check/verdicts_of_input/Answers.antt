use Rattle.std.proofs.Common.{ℕ, List, Option, Some, None, true}
use Rattle.std.specs.Prelude.{IfSome}
use Rattle.std.proofs.lemmas.Option.{IfSome_then}
use Rattle.std.proofs.lemmas.Result.{err_from_is_err_and}
use Rattle.mc_input.specs.InputView.{certificate_text}
use Rattle.mc_input.specs.Meaning.{MeansDomain, MeansDomainWhere}
use Rattle.mc_input.specs.declared.domain.BundleDomain.{BundleDomain}
use Rattle.mc_commands.specs.InputMeaning.{CertifiedDomain, IsRefusedFor, MeansCertified, MeansWithLists}
use Rattle.mc_commands.specs.RunFault.{from_source_fault}
use Rattle.mc_commands.specs.declared.check.DomainWithCertificate.{DomainWithCertificate}
use Rattle.mc_commands.specs.declared.fault.RunFault.TheVariants.{Memory}
use Rattle.std.specs.String.{string_bytes}
use Rattle.mc_commands.specs.CheckRun.{IsTextOfVerdicts, KeepsHeadline}
use Rattle.mc_commands.proofs.FaultLemmas.{is_fault_of_check-make, is_fault_of_make-source_fault}
use Rattle.mc_commands.proofs.RunInputLemmas.{of_domain-meant}
use Rattle.mc_commands.proofs.check.verdicts_of_input.Goals as goal

-- what holds of the domain and the lists that were read holds of those that the bundle means
of_certified-meant : (Holds : CertifiedDomain → Type 0) (contents : Option (List ℕ)) (read : BundleDomain)
    (certified : DomainWithCertificate)
    → IfSome contents (λ text. MeansDomain text (certificate_text read.certificate) read.domain)
    → ((text : List ℕ) → MeansDomain text (certificate_text read.certificate) read.domain
    → MeansCertified text certified.domain certified.certificate)
    → Holds (record { domain = certified.domain; lists = certified.certificate })
    → IfSome contents (MeansDomainWhere MeansWithLists Holds)
of_certified-meant Holds contents read certified means follows =
    let both : CertifiedDomain = record { domain = certified.domain; lists = certified.certificate } in
    of_domain-meant MeansWithLists Holds contents both (IfSome_then contents
    {P = λ text. MeansDomain text (certificate_text read.certificate) read.domain}
    {Q = λ text. MeansWithLists text both} means follows)

-- The bundle means the domain that was read, with the lists that its certificate denotes, and the text is
-- that of their verdicts.
pub returns-in-Ok-clause-text : goal.returns-in-Ok-clause-text
returns-in-Ok-clause-text g c =
    let written = string_bytes c.in-Ok.run_output.text in
    of_certified-meant (λ r. IsTextOfVerdicts r.domain r.lists c.in-Ok.run_output.yes written)
    (g.R.Input.remaining c.args.input.now) c.in_ok-read.read c.in_ok-certified.certified
    c.in_ok-read.ensures.means c.in_ok-certified.ensures.means c.in-Ok.ensures.text

-- The headline holds of the same domain and lists.
pub returns-in-Ok-clause-headline : goal.returns-in-Ok-clause-headline
returns-in-Ok-clause-headline g c = λ all.
    of_certified-meant (λ r. KeepsHeadline r.domain r.lists)
    (g.R.Input.remaining c.args.input.now) c.in_ok-read.read c.in_ok-certified.certified
    c.in_ok-read.ensures.means c.in_ok-certified.ensures.means (c.in-Ok.ensures.headline all)

-- The bundle means a domain, but its certificate is refused, which is then the bundle's first fault.
pub returns-in_err-certified-clause-refused : goal.returns-in_err-certified-clause-refused
returns-in_err-certified-clause-refused g c =
    let read = c.in_ok-read.read in
    let p = err_from_is_err_and c.from_residual-in_err-certified.result
    c.from_residual-in_err-certified.ensures.1 in
    rw (p.1, p.2) (IfSome_then (g.R.Input.remaining c.args.input.now)
    {P = λ text. MeansDomain text (certificate_text read.certificate) read.domain}
    {Q = λ text. IsRefusedFor true text c.in_err-certified.field-0.0}
    c.in_ok-read.ensures.means c.in_err-certified.ensures.refused)

-- Want of memory may end a run of any input.
pub returns-in-Err-clause-refused : goal.returns-in-Err-clause-refused
returns-in-Err-clause-refused g c = by (g.R.Input.remaining c.args.input.now)
  where
    by : (contents : Option (List ℕ)) → IfSome contents (λ text. IsRefusedFor true text Memory)
    by None = tt
    by (Some text) = tt

-- The fault of reading becomes the run's; `check` may return whatever `make` may.
pub returns-in_err-read-clause-faults : goal.returns-in_err-read-clause-faults
returns-in_err-read-clause-faults g c =
    let p = err_from_is_err_and c.from_residual.result c.from_residual.ensures.1 in
    rw (p.1, p.2) (is_fault_of_check-make (from_source_fault c.in_err-read.field-0.0)
    (is_fault_of_make-source_fault c.in_err-read.field-0.0))

-- A refused certificate is one of the faults of `check`.
pub returns-in_err-certified-clause-faults : goal.returns-in_err-certified-clause-faults
returns-in_err-certified-clause-faults g c =
    let p = err_from_is_err_and c.from_residual-in_err-certified.result
    c.from_residual-in_err-certified.ensures.1 in
    rw (p.1, p.2) c.in_err-certified.ensures.faults
