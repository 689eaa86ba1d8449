-- The output of an audit: what its text says, and its answer with what is counted.
use Rattle.std.proofs.Common.{◌≡◌, ℕ, Bool, false, List, Option, Result, Ok, Err, subst, sym}
use Rattle.std.specs.Prelude.{IfErr, IfOk, IfSome}
use Rattle.std.specs.String.{string_bytes}
use Rattle.mc_files.specs.Files.{FileText}
use Rattle.mc_run.specs.AuditPieces.{output_of, yes_of}
use Rattle.mc_run.specs.AuditedFiles.{LeftOutValue, MeansAuditedWhere}
use Rattle.mc_run.specs.AuditRun.{HasCounts, IsAuditText}
use Rattle.mc_run.specs.AuditClaims.{SaysOfEach, SaysWhichAreRight}
use Rattle.mc_run.specs.AuditExclusions.{AreFoundInWhole}
use Rattle.mc_run.specs.AuditYes.{AuditSaysYes, FilesKeepHeadline}
use Rattle.mc_commands.specs.Failures.{is_write}
use Rattle.mc_commands.specs.InputMeaning.{AreRefusedWithout}
use Rattle.mc_commands.specs.RunOutput.{Answers, IsOutputWritten, Writes, WritesPart}
use Rattle.mc_cli.specs.declared.audit_options.AuditOptions.{AuditOptions}
use Rattle.mc_run.specs.declared.audit.audit_output.AuditAnswer.{AuditAnswer}
use Rattle.mc_run.specs.declared.audit.audit_output.AuditCounts.{AuditCounts}
use Rattle.mc_run.specs.declared.audit.audit_output.AuditOutput.{AuditOutput}
use Rattle.mc_commands.specs.declared.fault.RunFault.{RunFault}
use Rattle.mc_commands.specs.declared.fault.RunFault.TheVariants.{Write}
use Rattle.mc_commands.specs.declared.run_output.RunOutput.{RunOutput}
use Rattle.mc_run.proofs.AuditTextLemmas.{audit_answer-gives, is_output_written-parts, audit_counts-gives}
use Rattle.mc_run.proofs.AuditTextLemmas.{audit_write_fault-gives, audit_yes-gives}
use Rattle.mc_run.proofs.AuditLemmas.{is_output_of-each_flow, headline_of_files-audit_yes}
use Rattle.mc_run.proofs.AuditLemmas.{is_write_fault-audit_output, is_output_of-which_are_right}
use Rattle.mc_run.proofs.AuditLemmas.{is_output_of-audit}
use Rattle.mc_commands.proofs.RunLemmas.{IsOutputOf, writes_part-output_written, answers-output_written}
use Rattle.mc_commands.proofs.RunLemmas.{writes-output_written}
use Rattle.mc_run.proofs.WholeDomainLemmas.{is_output_of-found_in_whole}
use Rattle.mc_run.proofs.YesLines.{headline-audit_says_yes, says_yes_by_line-verdict_yes, says_yes_by_line-yes_object}

-- the text that was put together is that of these files
abbrev pub HasText : Option (List FileText) → AuditOptions → (left : LeftOutValue)
    → Result AuditOutput RunFault → Type 0
HasText contents o left a = IfOk a (λ audit. IfSome contents (λ files.
    IsAuditText o left files audit.run_output.yes (string_bytes audit.run_output.text)))

-- what the text says is written
writes-output_text : (contents : Option (List FileText)) (Says : List FileText → Bool → List ℕ → Type 0)
    (a : Result AuditOutput RunFault) (p : Result RunOutput RunFault) (s : Result Bool RunFault)
    (r : Result AuditAnswer RunFault) (old new : Option (List ℕ)) → IsOutputOf contents Says (output_of a)
    → p ≡ output_of a → IsOutputWritten p s old new → yes_of r ≡ s
    → IfOk (yes_of r) (λ all. IfSome contents (λ files. Writes Says files all old new))
writes-output_text contents Says a p s r old new says parts is same =
    audit_answer-gives (λ all. IfSome contents (λ files. Writes Says files all old new)) r s same
    (writes-output_written contents Says (output_of a) s old new says
    (is_output_written-parts p (output_of a) s old new parts is))

-- a fault in place of the audit is that of the output
err-of_output : (P : RunFault → Type 0) (a : Result AuditOutput RunFault) → IfErr a P → IfErr (output_of a) P
err-of_output P (Ok audit) holds = tt
err-of_output P (Err fault) holds = holds

-- the answer is right
answers-run : (contents : Option (List FileText)) (o : AuditOptions) (left : LeftOutValue)
    (a : Result AuditOutput RunFault) (p : Result RunOutput RunFault) (s : Result Bool RunFault)
    (r : Result AuditAnswer RunFault) (old new : Option (List ℕ)) → HasText contents o left a
    → IfErr a (λ fault. IfSome contents (λ files. AreRefusedWithout left.routers files fault))
    → p ≡ output_of a → IsOutputWritten p s old new → yes_of r ≡ s
    → IfSome contents (λ files.
    Answers (IsAuditText o left) (AreRefusedWithout left.routers) files (yes_of r))
answers-run contents o left a p s r old new text refused parts is same =
    subst (λ (t : Result Bool RunFault). IfSome contents (λ files.
    Answers (IsAuditText o left) (AreRefusedWithout left.routers) files t)) (sym same)
    (answers-output_written contents (IsAuditText o left) (AreRefusedWithout left.routers)
    (output_of a) s old new (λ files. tt) (is_output_of-audit contents o left a text)
    (err-of_output (λ fault. IfSome contents (λ files. AreRefusedWithout left.routers files fault)) a refused)
    (is_output_written-parts p (output_of a) s old new parts is))

-- a part of the text is written if the output fails
writes_part-run : (contents : Option (List FileText)) (o : AuditOptions) (left : LeftOutValue)
    (a : Result AuditOutput RunFault) (p : Result RunOutput RunFault) (s : Result Bool RunFault)
    (r : Result AuditAnswer RunFault) (old new : Option (List ℕ)) → HasText contents o left a
    → IfErr a (λ fault. is_write fault ≡ false) → p ≡ output_of a → IsOutputWritten p s old new
    → yes_of r ≡ s → r ≡ Err Write → IfSome contents (λ files. WritesPart (IsAuditText o left) files old new)
writes_part-run contents o left a p s r old new text no_write parts is same =
    audit_write_fault-gives (IfSome contents (λ files. WritesPart (IsAuditText o left) files old new)) r s
    same (writes_part-output_written contents (IsAuditText o left) (output_of a) s old new
    (is_write_fault-audit_output a no_write) (is_output_of-audit contents o left a text)
    (is_output_written-parts p (output_of a) s old new parts is))

-- what is written says which flows are right
writes_which_are_right-run : (contents : Option (List FileText)) (o : AuditOptions)
    (left : LeftOutValue)
    (a : Result AuditOutput RunFault) (p : Result RunOutput RunFault) (s : Result Bool RunFault)
    (r : Result AuditAnswer RunFault) (old new : Option (List ℕ)) → HasText contents o left a
    → p ≡ output_of a → IsOutputWritten p s old new → yes_of r ≡ s
    → IfOk (yes_of r) (λ all. IfSome contents (λ files.
    Writes (SaysWhichAreRight o left) files all old new))
writes_which_are_right-run contents o left a p s r old new text parts is same =
    writes-output_text contents (SaysWhichAreRight o left) a p s r old new
    (is_output_of-which_are_right contents o left (output_of a)
    (is_output_of-audit contents o left a text)) parts is same

-- what is written truly says yes to each flow or what is found of it
writes_of_each-run : (contents : Option (List FileText)) (o : AuditOptions) (left : LeftOutValue)
    (a : Result AuditOutput RunFault) (p : Result RunOutput RunFault) (s : Result Bool RunFault)
    (r : Result AuditAnswer RunFault) (old new : Option (List ℕ)) → HasText contents o left a
    → p ≡ output_of a → IsOutputWritten p s old new → yes_of r ≡ s
    → IfOk (yes_of r) (λ all. IfSome contents (λ files. Writes (SaysOfEach o left) files all old new))
writes_of_each-run contents o left a p s r old new text parts is same =
    writes-output_text contents (SaysOfEach o left) a p s r old new
    (is_output_of-each_flow contents o left (output_of a)
    (is_output_of-audit contents o left a text)) parts is same

-- a second copy or a stray in what is written is a fault of the whole domain
are_found_in_whole-run : (contents : Option (List FileText)) (o : AuditOptions) (left : LeftOutValue)
    (a : Result AuditOutput RunFault) (p : Result RunOutput RunFault) (s : Result Bool RunFault)
    (r : Result AuditAnswer RunFault) (old new : Option (List ℕ)) → HasText contents o left a
    → p ≡ output_of a → IsOutputWritten p s old new → yes_of r ≡ s
    → IfOk (yes_of r) (λ all. IfSome contents (λ files.
    Writes (AreFoundInWhole o left) files all old new))
are_found_in_whole-run contents o left a p s r old new text parts is same =
    writes-output_text contents (AreFoundInWhole o left) a p s r old new
    (is_output_of-found_in_whole contents o left (output_of a)
    (is_output_of-audit contents o left a text)) parts is same

-- a part of such a text is written if the output fails
writes_of_each_in_part-run : (contents : Option (List FileText)) (o : AuditOptions)
    (left : LeftOutValue)
    (a : Result AuditOutput RunFault) (p : Result RunOutput RunFault) (s : Result Bool RunFault)
    (r : Result AuditAnswer RunFault) (old new : Option (List ℕ)) → HasText contents o left a
    → IfErr a (λ fault. is_write fault ≡ false) → p ≡ output_of a → IsOutputWritten p s old new
    → yes_of r ≡ s → r ≡ Err Write → IfSome contents (λ files. WritesPart (SaysOfEach o left) files old new)
writes_of_each_in_part-run contents o left a p s r old new text no_write parts is same =
    audit_write_fault-gives (IfSome contents (λ files. WritesPart (SaysOfEach o left) files old
    new)) r s same
    (writes_part-output_written contents (SaysOfEach o left) (output_of a) s old new
    (is_write_fault-audit_output a no_write)
    (is_output_of-each_flow contents o left (output_of a) (is_output_of-audit contents o left a text))
    (is_output_written-parts p (output_of a) s old new parts is))

-- after a yes, by the answer or by a line that was written, the headline holds for the files
headline_of_files-run : (contents : Option (List FileText)) (o : AuditOptions) (left : LeftOutValue)
    (a : Result AuditOutput RunFault) (p : Result RunOutput RunFault) (s : Result Bool RunFault)
    (r : Result AuditAnswer RunFault) (old new : Option (List ℕ)) → HasText contents o left a
    → p ≡ output_of a → IsOutputWritten p s old new → yes_of r ≡ s
    → AuditSaysYes (yes_of r) old new → IfSome contents FilesKeepHeadline
headline_of_files-run contents o left a p s r old new text parts is same =
    let says = is_output_of-audit contents o left a text in
    audit_yes-gives (IfSome contents FilesKeepHeadline) r s old new same
    (headline-audit_says_yes contents (IsAuditText o left) FilesKeepHeadline (output_of a) s old new
    (says_yes_by_line-verdict_yes o left) (says_yes_by_line-yes_object o left) says
    (headline_of_files-audit_yes contents o left (output_of a) says)
    (is_output_written-parts p (output_of a) s old new parts is))

-- the counts are those of the right flows that nobody wants and of the wants that no flow answers
pub has_counts-run : (contents : Option (List FileText)) (o : AuditOptions) (left : LeftOutValue)
    (a : Result AuditOutput RunFault) (p : Result RunOutput RunFault) (counts : AuditCounts)
    (s : Result Bool RunFault) (r : Result AuditAnswer RunFault) (old new : Option (List ℕ))
    → IfOk a (λ audit. IfSome contents (MeansAuditedWhere o left (λ v. HasCounts v o audit.counts)))
    → p ≡ output_of a → ((audit : AuditOutput) → a ≡ Ok audit → counts ≡ audit.counts)
    → IsOutputWritten p s old new → yes_of r ≡ s → IfOk r (λ answer. answer.counts ≡ counts)
    → IfOk r (λ answer. IfSome contents (MeansAuditedWhere o left (λ v. HasCounts v o answer.counts)))
has_counts-run contents o left a p counts s r old new =
    audit_counts-gives (λ n. IfSome contents (MeansAuditedWhere o left (λ v. HasCounts v o n)))
    a p counts s r old new

-- ---- all of these

-- what the clauses of a run say but for the counts
pub record IsRunOf (contents : Option (List FileText)) (o : AuditOptions) (left : LeftOutValue)
    (r : Result AuditAnswer RunFault) (old new : Option (List ℕ)) : Type 0 where
  pub answer : IfSome contents (λ files.
      Answers (IsAuditText o left) (AreRefusedWithout left.routers) files (yes_of r))
  pub part : r ≡ Err Write → IfSome contents (λ files. WritesPart (IsAuditText o left) files old new)
  pub right : IfOk (yes_of r) (λ all. IfSome contents (λ files.
      Writes (SaysWhichAreRight o left) files all old new))
  pub each : IfOk (yes_of r) (λ all. IfSome contents (λ files. Writes (SaysOfEach o left) files all old new))
  pub each_in_part : r ≡ Err Write → IfSome contents (λ files. WritesPart (SaysOfEach o left) files old new)
  pub excluded : IfOk (yes_of r) (λ all. IfSome contents (λ files.
      Writes (AreFoundInWhole o left) files all old new))
  pub headline : AuditSaysYes (yes_of r) old new → IfSome contents FilesKeepHeadline

-- all this follows from the audit of the files and from how its output was written
pub is_run-of_steps : (contents : Option (List FileText)) (o : AuditOptions) (left : LeftOutValue)
    (a : Result AuditOutput RunFault) (p : Result RunOutput RunFault) (s : Result Bool RunFault)
    (r : Result AuditAnswer RunFault) (old new : Option (List ℕ)) → HasText contents o left a
    → IfErr a (λ fault. IfSome contents (λ files. AreRefusedWithout left.routers files fault))
    → IfErr a (λ fault. is_write fault ≡ false) → p ≡ output_of a → IsOutputWritten p s old new → yes_of r ≡ s
    → IsRunOf contents o left r old new
is_run-of_steps contents o left a p s r old new text refused no_write parts is same = record {
  answer = answers-run contents o left a p s r old new text refused parts is same;
  part = writes_part-run contents o left a p s r old new text no_write parts is same;
  right = writes_which_are_right-run contents o left a p s r old new text parts is same;
  each = writes_of_each-run contents o left a p s r old new text parts is same;
  each_in_part = writes_of_each_in_part-run contents o left a p s r old new text no_write parts is same;
  excluded = are_found_in_whole-run contents o left a p s r old new text parts is same;
  headline = headline_of_files-run contents o left a p s r old new text parts is same;
}
