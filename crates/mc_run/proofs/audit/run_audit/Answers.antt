use Rattle.mc_run.specs.AuditedFiles.{left_out}
use Rattle.mc_commands.specs.Faults.{IsFaultOfAudit}
use Rattle.mc_run.proofs.AuditOutputLemmas.{IsRunOf, has_counts-run, is_run-of_steps}
use Rattle.mc_run.proofs.AuditFaultLemmas.{fault-of_audit_answer}
use Rattle.mc_run.proofs.audit.run_audit.Given as given
use Rattle.mc_run.proofs.audit.run_audit.Goals as goal

-- All clauses follow from the audit of the files and from how its output was written; the counts and the
-- answer are taken apart before, and put together after.
run : (g : given.Over) (c : goal.After-with_counts g) → IsRunOf (g.F.FileSource.contents c.args.files.now)
    c.args.options (left_out c.args.left.now) c.with_counts.result (g.W.Output.written c.args.output.now)
    (g.W.Output.written c.write_output.new.output)
run g c =
    is_run-of_steps (g.F.FileSource.contents c.args.files.now) c.args.options (left_out c.args.left.now)
    c.audit_files.result c.parts-run_output.result.0 c.write_output.result c.with_counts.result _ _
    c.audit_files.ensures.text c.audit_files.ensures.refused c.audit_files.ensures.no_write
    c.parts-run_output.ensures.run_output c.write_output.ensures.ended c.with_counts.ensures.yes

-- Each clause is one of those facts.
pub returns-clause-answer : goal.returns-clause-answer
returns-clause-answer g c = (run g c).answer

pub returns-clause-part : goal.returns-clause-part
returns-clause-part g c = (run g c).part

pub returns-clause-right : goal.returns-clause-right
returns-clause-right g c = (run g c).right

pub returns-clause-each : goal.returns-clause-each
returns-clause-each g c = (run g c).each

pub returns-clause-each_in_part : goal.returns-clause-each_in_part
returns-clause-each_in_part g c = (run g c).each_in_part

pub returns-clause-excluded : goal.returns-clause-excluded
returns-clause-excluded g c = (run g c).excluded

pub returns-clause-headline : goal.returns-clause-headline
returns-clause-headline g c = (run g c).headline

pub returns-clause-counts : goal.returns-clause-counts
returns-clause-counts g c =
    has_counts-run (g.F.FileSource.contents c.args.files.now) c.args.options
    (left_out c.args.left.now) c.audit_files.result _ _ c.write_output.result
    c.with_counts.result _ _ c.audit_files.ensures.counts c.parts-run_output.ensures.run_output
    c.parts-run_output.ensures.counts c.write_output.ensures.ended c.with_counts.ensures.yes
    c.with_counts.ensures.counts

pub returns-clause-faults : goal.returns-clause-faults
returns-clause-faults g c =
    fault-of_audit_answer IsFaultOfAudit c.audit_files.result c.parts-run_output.result.0
    c.write_output.result
    c.with_counts.result _ _ tt c.audit_files.ensures.faults c.parts-run_output.ensures.run_output
    c.write_output.ensures.ended c.with_counts.ensures.yes
