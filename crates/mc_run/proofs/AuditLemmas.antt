-- From the text of an audit to what the output of its run says.
use Rattle.std.proofs.Common.{◌≡◌, ℕ, suc, true, false, List, [], ◌∷◌, length, Option, Some, None, Result}
use Rattle.std.proofs.Common.{Ok, Err, sym, ap, ◌∙◌, arith}
use Rattle.std.specs.Prelude.{◌==◌, IfErr, IfOk, IfSome, IsTrue}
use Rattle.std.specs.String.{string_bytes}
use Rattle.std.proofs.lemmas.Bool.{false≢true, ne_eqb}
use Rattle.mc_files.specs.Files.{FileText}
use Rattle.mc_forward.specs.Domains.{DomainValue}
use Rattle.mc_run.specs.FlowCounts.{are_right}
use Rattle.mc_run.specs.AuditPieces.{output_of}
use Rattle.mc_commands.specs.Failures.{is_write}
use Rattle.mc_run.specs.AuditedFiles.{LeftOutValue, MeansAudited, is_whole}
use Rattle.mc_run.specs.AuditRun.{IsAuditText, IsAudited}
use Rattle.mc_run.specs.AuditClaims.{SaysOfEach, SaysWhichAreRight, WritesWhichAreRight}
use Rattle.mc_run.specs.AuditYes.{FilesKeepHeadline}
use Rattle.mc_input.specs.ExcludedRouters.{files_with_exclusions}
use Rattle.mc_input.specs.Meaning.{FilesMeanDomain}
use Rattle.mc_cli.specs.declared.audit_options.AuditOptions.{AuditOptions}
use Rattle.mc_run.specs.declared.audit.audit_output.AuditOutput.{AuditOutput}
use Rattle.mc_commands.specs.declared.fault.RunFault.{RunFault}
use Rattle.mc_commands.specs.declared.run_output.RunOutput.{RunOutput}
use Rattle.mc_commands.proofs.RunInputLemmas.{of_domain-implication}
use Rattle.mc_commands.proofs.RunLemmas.{IsOutputOf, is_output_of-implication}
use Rattle.mc_run.proofs.FlowAnswerLemmas.{and-true_left, keeps_headline-all_certified}
use Rattle.mc_run.proofs.FlowClaimLemmas.{writes_which_are_right-audited, yes_or_finding-audited}

-- the output of an audit says which flows are right, since each text of an audit does
pub is_output_of-which_are_right : (contents : Option (List FileText)) (o : AuditOptions)
    (left : LeftOutValue)
    (s : Result RunOutput RunFault) → IsOutputOf contents (IsAuditText o left) s
    → IsOutputOf contents (SaysWhichAreRight o left) s
is_output_of-which_are_right contents o left s =
    is_output_of-implication contents (IsAuditText o left) (SaysWhichAreRight o left) s
    (λ files all written.
    of_domain-implication (MeansAudited o left) (λ v. IsAudited v o all written)
    (λ v. WritesWhichAreRight v o all written) (λ v. writes_which_are_right-audited v o all written) files)

-- the output of an audit truly says yes to each flow or what is found of it, since each text of an audit does
pub is_output_of-each_flow : (contents : Option (List FileText)) (o : AuditOptions) (left : LeftOutValue)
    (s : Result RunOutput RunFault) → IsOutputOf contents (IsAuditText o left) s
    → IsOutputOf contents (SaysOfEach o left) s
is_output_of-each_flow contents o left s =
    is_output_of-implication contents (IsAuditText o left) (SaysOfEach o left) s
    (λ files all written is. record {
      domain = is.domain;
      means = is.means;
      holds = yes_or_finding-audited is.domain o all written is.means.means.rules is.holds;
    })

-- without excluded routers, the files are unchanged
excluded_files-no_names : (files : List FileText) (names : List (List ℕ)) (d : DomainValue)
    → (length names == 0) ≡ true
    → FilesMeanDomain (files_with_exclusions names files) d → FilesMeanDomain files d
excluded_files-no_names files [] d none means = means
excluded_files-no_names files (name ∷ names) d none means = absurd (not_none (length names) none)
  where
    not_none : (n : ℕ) → (suc n == 0) ≡ true → ⊥
    not_none n same = false≢true (sym (ne_eqb (suc n) 0 (λ e. omega (arith, e))) ∙ same)

-- after a yes no router is excluded and all flows are certified, so that the headline holds for the files
-- themselves
pub headline_of_files-audit_yes : (contents : Option (List FileText)) (o : AuditOptions)
    (left : LeftOutValue)
    (s : Result RunOutput RunFault) → IsOutputOf contents (IsAuditText o left) s
    → IfOk s (λ run_output. IsTrue run_output.yes → IfSome contents FilesKeepHeadline)
headline_of_files-audit_yes contents o left (Err fault) says = tt
headline_of_files-audit_yes None o left (Ok run_output) says = λ yes. tt
headline_of_files-audit_yes (Some files) o left (Ok run_output) says = λ yes.
    let v = says.domain in
    let whole : (length left.routers == 0) ≡ true =
    ap (λ (ns : List (List ℕ)). length ns == 0) (sym says.means.without)
    ∙ and-true_left (is_whole v) (are_right says.holds.answers) (sym says.holds.answer ∙ yes) in
    record {
      domain = v.domain;
      means = excluded_files-no_names files left.routers v.domain whole says.means.means;
      holds = keeps_headline-all_certified v o run_output.yes (string_bytes run_output.text) says.holds yes;
    }

-- ---- the text, and the number of unwanted flows

-- an audit's text that is right for the files is so as the output of a run
pub is_output_of-audit : (contents : Option (List FileText)) (o : AuditOptions) (left : LeftOutValue)
    (r : Result AuditOutput RunFault)
    → IfOk r (λ audit. IfSome contents (λ files.
    IsAuditText o left files audit.run_output.yes (string_bytes audit.run_output.text)))
    → IsOutputOf contents (IsAuditText o left) (output_of r)
is_output_of-audit contents o left (Ok audit) says = says
is_output_of-audit contents o left (Err fault) says = tt

-- a fault in place of an audit is the same fault in place of its output, and not `Write`
pub is_write_fault-audit_output : (r : Result AuditOutput RunFault)
    → IfErr r (λ fault. is_write fault ≡ false)
    → IfErr (output_of r) (λ fault. is_write fault ≡ false)
is_write_fault-audit_output (Ok audit) none = tt
is_write_fault-audit_output (Err fault) none = none
