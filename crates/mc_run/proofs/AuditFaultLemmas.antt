-- The faults of an audit's answer.
use Rattle.std.proofs.Common.{◌≡◌, ℕ, Bool, List, Option, Result, Ok, Err, sym, subst}
use Rattle.std.specs.Prelude.{IfErr}
use Rattle.mc_commands.specs.RunOutput.{IsOutputWritten}
use Rattle.mc_commands.specs.declared.fault.RunFault.{RunFault}
use Rattle.mc_commands.specs.declared.fault.RunFault.TheVariants.{Write}
use Rattle.mc_commands.specs.declared.run_output.RunOutput.{RunOutput}
use Rattle.mc_commands.proofs.RunLemmas.{fault-of_output_or_write}
use Rattle.mc_run.specs.AuditPieces.{output_of, yes_of}
use Rattle.mc_run.specs.declared.audit.audit_output.AuditAnswer.{AuditAnswer}
use Rattle.mc_run.specs.declared.audit.audit_output.AuditOutput.{AuditOutput}

-- what holds of an audit's fault holds of its output's
fault-of_output : (P : RunFault → Type 0) (a : Result AuditOutput RunFault) → IfErr a P
    → IfErr (output_of a) P
fault-of_output P (Ok audit) own = tt
fault-of_output P (Err fault) own = own

-- what holds of the fault of an audit's yes holds of the fault of its answer
fault-of_answer : (P : RunFault → Type 0) (r : Result AuditAnswer RunFault) → IfErr (yes_of r) P
    → IfErr r P
fault-of_answer P (Ok answer) own = tt
fault-of_answer P (Err fault) own = own

-- what holds of an audit's faults and of `Write` holds of the fault of its answer
pub fault-of_audit_answer : (P : RunFault → Type 0) (a : Result AuditOutput RunFault)
    (p : Result RunOutput RunFault) (s : Result Bool RunFault) (r : Result AuditAnswer RunFault)
    (old new : Option (List ℕ)) → P Write → IfErr a P → p ≡ output_of a → IsOutputWritten p s old new
    → yes_of r ≡ s → IfErr r P
fault-of_audit_answer P a p s r old new write own parts is same =
    fault-of_answer P r (subst (λ (t : Result Bool RunFault). IfErr t P) (sym same)
    (fault-of_output_or_write P p s old new write (subst
    (λ (t : Result RunOutput RunFault). IfErr t P) (sym parts)
    (fault-of_output P a own)) is))
