-- The whole text of an audit, and what it says of the files.
use Rattle.std.proofs.Common.{◌≡◌, ℕ, Bool, List, ◌++◌, length, Option, Some, None, Result, Ok, Err, refl}
use Rattle.std.proofs.Common.{sym, ap, ap₂, subst, ◌∙◌, append_assoc}
use Rattle.std.specs.Prelude.{◌==◌, ◌&&◌, IfOk, IfSome, flat_map}
use Rattle.mc_files.specs.Files.{FileText}
use Rattle.mc_tables.specs.Summary.{SummaryValue}
use Rattle.mc_forward.specs.Domains.{DomainValue}
use Rattle.mc_forward.specs.ListedTables.{facts}
use Rattle.mc_cert.specs.Certificate.{Tree}
use Rattle.mc_input.specs.AskedOfFiles.{UnansweredWantsValue, IsAskedOf}
use Rattle.mc_input.specs.ExcludedRouters.{AreRouterNames, files_with_exclusions}
use Rattle.mc_input.specs.Meaning.{FilesMeanDomain}
use Rattle.mc_input.specs.SummariesOfFiles.{AreSummariesOf}
use Rattle.mc_run.specs.FlowCounts.{count as count_of, is_right, is_unknown, is_unwanted, is_wrong}
use Rattle.mc_run.specs.AuditBegin.{begin_lines}
use Rattle.mc_run.specs.AuditEnd.{end_text_or_objects, verdict_line}
use Rattle.mc_run.specs.AuditPieces.{AreFlowsPushed, output_of, yes_of}
use Rattle.mc_run.specs.AuditedFiles.{AuditedValue, LeftOutValue, MeansAuditedWhere, excluded, is_whole}
use Rattle.mc_run.specs.AuditRun.{IsAudited, is_yes}
use Rattle.mc_run.specs.AuditYes.{AuditSaysYes}
use Rattle.mc_cli.specs.declared.audit_options.AuditOptions.{AuditOptions}
use Rattle.mc_run.specs.declared.audit.audit_output.AuditAnswer.{AuditAnswer}
use Rattle.mc_run.specs.declared.audit.audit_output.AuditCounts.{AuditCounts}
use Rattle.mc_run.specs.declared.audit.audit_output.AuditOutput.{AuditOutput}
use Rattle.mc_commands.specs.declared.fault.RunFault.{RunFault}
use Rattle.mc_commands.specs.declared.fault.RunFault.TheVariants.{Write}
use Rattle.mc_commands.specs.RunOutput.{IsOutputWritten}
use Rattle.mc_commands.specs.declared.run_output.RunOutput.{RunOutput}
use Rattle.mc_run.specs.declared.audit.flow_status.FlowCounts.{FlowCounts}
use Rattle.mc_run.proofs.AuditFlows.{is_yes-zero_wrong}

-- ---- one text

-- whether a list of names is empty, by its length
abbrev no_names-no_count : (v : AuditedValue) (k : ℕ) → length v.without ≡ k
    → (length v.without == 0) ≡ (k == 0)
no_names-no_count v k same = ap (λ (n : ℕ). n == 0) same

pub is_audited-all_pushed : (v : AuditedValue) (o : AuditOptions) (s : FlowCounts) (printed : List Tree)
    (marks : List Bool) (count : ℕ) (every : Bool) (begin lines text : List ℕ)
    → marks ≡ excluded v → length v.without ≡ count → begin ≡ begin_lines o (facts v.domain) marks v.ignored
    → AreFlowsPushed v o (length v.domain.topology.flows) s printed begin lines
    → every ≡ ((count == 0) && (s.wrong == 0))
    → text ≡ lines ++ (end_text_or_objects o v.domain.topology v.summary v.asked marks (is_whole v) every
    (length v.domain.topology.flows) s.right s.wrong s.unknown s.unwanted ++ verdict_line o.json every)
    → IsAudited v o every text
is_audited-all_pushed v o s printed marks count every begin lines text same size begins to is ends =
    let answers = to.answers in
    let t = v.domain.topology in
    let ours = flat_map (λ a. a.lines) answers in
    let answer : every ≡ is_yes v answers =
    is ∙ ap (λ (b : Bool). b && (s.wrong == 0)) (sym (no_names-no_count v count size))
    ∙ ap (λ (n : ℕ). is_whole v && (n == 0)) to.wrong
    ∙ is_yes-zero_wrong v o answers (is_whole v) refl to.each in
    let first : begin ≡ begin_lines o (facts v.domain) (excluded v) v.ignored =
    begins ∙ ap (λ (ms : List Bool). begin_lines o (facts v.domain) ms v.ignored) same in
    let end = λ (ms : List Bool) (b : Bool) (n r w k u : ℕ).
    end_text_or_objects o t v.summary v.asked ms (is_whole v) b n r w k u ++ verdict_line o.json b in
    let last : end marks every (length t.flows) s.right s.wrong s.unknown s.unwanted
    ≡ end (excluded v) (is_yes v answers) (length answers) (count_of is_right answers)
    (count_of is_wrong answers) (count_of is_unknown answers) (count_of is_unwanted answers) =
    ap (λ (ms : List Bool). end ms every (length t.flows) s.right s.wrong s.unknown s.unwanted) same
    ∙ ap (λ (b : Bool). end (excluded v) b (length t.flows) s.right s.wrong s.unknown s.unwanted) answer
    ∙ ap (λ (n : ℕ). end (excluded v) (is_yes v answers) n s.right s.wrong s.unknown s.unwanted)
    (sym to.count_is)
    ∙ ap₂ (λ (n m : ℕ). end (excluded v) (is_yes v answers) (length answers) n m s.unknown s.unwanted)
    to.right to.wrong
    ∙ ap₂ (λ (n m : ℕ). end (excluded v) (is_yes v answers) (length answers) (count_of is_right answers)
    (count_of is_wrong answers) n m) to.unknown to.unwanted in
    let behind = end (excluded v) (is_yes v answers) (length answers) (count_of is_right answers)
    (count_of is_wrong answers) (count_of is_unknown answers) (count_of is_unwanted answers) in
    record {
      answers = answers;
      are_answers = record { count = to.count_is; each = to.each };
      answer = answer;
      spelled = ends ∙ ap (λ xs. lines ++ xs) last ∙ ap (λ xs. xs ++ behind) to.spelled
          ∙ ap (λ xs. (xs ++ ours) ++ behind) first
          ∙ append_assoc (begin_lines o (facts v.domain) (excluded v) v.ignored) ours behind;
    }

-- ---- the files

-- what holds of the domain that was read, with its summaries and wants, holds of the one that the files mean
pub of_domain-means_audited : (Holds : AuditedValue → Type 0) (o : AuditOptions) (left : LeftOutValue)
    (contents : Option (List FileText)) (d : DomainValue) (summary : List SummaryValue)
    (asked : UnansweredWantsValue)
    → IfSome contents (λ files. FilesMeanDomain (files_with_exclusions left.routers files) d)
    → AreRouterNames d.topology left.routers
    → IfSome contents (λ files. AreSummariesOf o.unlisted (files_with_exclusions left.routers files)
    d.topology summary)
    → IfSome contents (λ files. IsAskedOf o.unlisted left.groups (files_with_exclusions left.routers files)
    d asked)
    → Holds (record {
      domain = d;
      summary = summary;
      asked = asked;
      without = left.routers;
      ignored = left.groups;
    })
    → IfSome contents (MeansAuditedWhere o left Holds)
of_domain-means_audited Holds o left None d summary asked means routers summarized wants holds = tt
of_domain-means_audited Holds o left (Some files) d summary asked means routers summarized wants holds =
    record {
      domain = record {
        domain = d;
        summary = summary;
        asked = asked;
        without = left.routers;
        ignored = left.groups;
      };
      means = record {
        means = means;
        routers = routers;
        summary = summarized;
        asked = wants;
        without = refl;
        ignored = refl;
      };
      holds = holds;
    }

-- ---- the answer, with what is counted

-- what follows from the run's answer follows from the audit's
pub audit_answer-gives : (P : Bool → Type 0) (r : Result AuditAnswer RunFault) (s : Result Bool RunFault)
    → yes_of r ≡ s → IfOk s P → IfOk (yes_of r) P
audit_answer-gives P r s same holds = subst (λ (t : Result Bool RunFault). IfOk t P) (sym same) holds

pub audit_write_fault-gives : (Q : Type 0) (r : Result AuditAnswer RunFault) (s : Result Bool RunFault)
    → yes_of r ≡ s → (s ≡ Err Write → Q) → r ≡ Err Write → Q
audit_write_fault-gives Q r s same follows fails = follows (sym same ∙ ap yes_of fails)

pub audit_yes-gives : (Q : Type 0) (r : Result AuditAnswer RunFault) (s : Result Bool RunFault)
    (old new : Option (List ℕ)) → yes_of r ≡ s → (AuditSaysYes s old new → Q)
    → AuditSaysYes (yes_of r) old new → Q
audit_yes-gives Q r s old new same follows says =
    follows (subst (λ (t : Result Bool RunFault). AuditSaysYes t old new) same says)

-- the output is that of the audit
pub is_output_written-parts : (s t : Result RunOutput RunFault) (y : Result Bool RunFault)
    (old new : Option (List ℕ))
    → s ≡ t → IsOutputWritten s y old new → IsOutputWritten t y old new
is_output_written-parts s t y old new same is =
    subst (λ (u : Result RunOutput RunFault). IsOutputWritten u y old new) same is

-- a fault in place of the output gives no answer
no_answer-without_output : (f : RunFault) (p : Result RunOutput RunFault) (s : Result Bool RunFault)
    (all : Bool)
    (old new : Option (List ℕ)) → p ≡ Err f → Ok all ≡ s → IsOutputWritten p s old new → ⊥
no_answer-without_output f p s all old new none same is =
    let run_output : IsOutputWritten (Err f) s old new =
    subst (λ (u : Result RunOutput RunFault). IsOutputWritten u s old new) none is in
    subst (λ (t : Result Bool RunFault). IsOutputWritten (Err f) t old new) (sym same) run_output

-- an answer comes only from an audit's output, so that what holds of the counts of the audit holds of those
-- that are returned with the answer
pub audit_counts-gives : (P : AuditCounts → Type 0) (a : Result AuditOutput RunFault)
    (p : Result RunOutput RunFault) (counts : AuditCounts) (s : Result Bool RunFault)
    (r : Result AuditAnswer RunFault) (old new : Option (List ℕ)) → IfOk a (λ audit. P audit.counts)
    → p ≡ output_of a → ((audit : AuditOutput) → a ≡ Ok audit → counts ≡ audit.counts)
    → IsOutputWritten p s old new → yes_of r ≡ s → IfOk r (λ answer. answer.counts ≡ counts)
    → IfOk r (λ answer. P answer.counts)
audit_counts-gives P a p counts s (Err f) old new holds parts counted is same counted_is = tt
audit_counts-gives P (Ok audit) p counts s (Ok answer) old new holds parts counted is same counted_is =
    subst P (sym (counted_is ∙ counted audit refl)) holds
audit_counts-gives P (Err f) p counts s (Ok answer) old new holds parts counted is same counted_is =
    absurd (no_answer-without_output f p s answer.yes old new parts same is)
