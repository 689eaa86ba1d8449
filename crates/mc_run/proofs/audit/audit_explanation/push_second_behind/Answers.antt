use Rattle.std.proofs.Common.{◌∙◌}
use Rattle.mc_forward.specs.ListedTables.{facts}
use Rattle.mc_run.specs.AuditPieces.{audited_value}
use Rattle.mc_run.proofs.ExplanationLemmas.{second_behind-pushed}
use Rattle.mc_run.proofs.audit.audit_explanation.push_second_behind.Goals as goal

-- The line of the second copy, its causes and the line on the packets that show it are appended one after
-- another. The finding is there, since this is the case where one is.
pub returns : goal.returns
returns c = record {
  added = (
      let v = audited_value c.args.audited.now in
      second_behind-pushed (facts v.domain) v.summary c.args.flow c.args.behind.now
      c.shown-finding.result.topology.now
      c.in-Some.finding c.shown-finding.result.finding c.deref.result.now
      c.push_shown_from.result _ _ _ _
      (c.shown-finding.ensures.topology ∙ c.topology.ensures.topology)
      c.shown-finding.ensures.finding c.in-Some.is
      c.deref.ensures.value c.in_ok-writeln.ensures.bytes c.in_ok-push_deeper_causes.ensures.lines
      c.push_shown_from.ensures);
}
