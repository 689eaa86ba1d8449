use Rattle.std.proofs.Common.{◌≡◌, ℕ, List, map, ap₂, subst}
use Rattle.mc_run.specs.AuditedFiles.{LeftOutValue}
use Rattle.mc_run.specs.TaskRuns.{IsAuditResult, left_out_by}
use Rattle.mc_run.proofs.task.task_files.audit_task.Goals as goal

-- The task's words are what `run_audit` is called with, so that each of its clauses is one of the run.
pub returns-clause-run : goal.returns-clause-run
returns-clause-run g c =
    let contents = g.F.FileSource.contents c.args.files.now in
    let old = g.W.Output.written c.args.output.now in
    let new = g.W.Output.written c.run_audit-audited.new.output in
    let o = c.args.words.now.options in
    let audited = c.run_audit-audited.result in
    let left : LeftOutValue = record {
      routers = map (λ name. name.now) c.deref.result.now;
      groups = c.deref-2.result.now;
    } in
    let answered : IsAuditResult o left contents audited old new = record {
      answer = c.run_audit-audited.ensures.answer;
      written = c.run_audit-audited.ensures.written;
      part = c.run_audit-audited.ensures.part;
      right = c.run_audit-audited.ensures.right;
      counts = c.run_audit-audited.ensures.counts;
      each = c.run_audit-audited.ensures.each;
      each_in_part = c.run_audit-audited.ensures.each_in_part;
      excluded = c.run_audit-audited.ensures.excluded;
      faults = c.run_audit-audited.ensures.faults;
      headline = c.run_audit-audited.ensures.headline;
    } in
    let same : left ≡ left_out_by c.args.words.now =
    ap₂ (λ (names : List _) (groups : List (ℕ × ℕ)). record {
      routers = map (λ name. name.now) names;
      groups = groups;
    }) c.deref.ensures.value c.deref-2.ensures.value in
    record {
      audited = audited;
      answered = subst (λ (l : LeftOutValue). IsAuditResult o l contents audited old new) same answered;
      enough = c.enough_of.ensures;
    }
