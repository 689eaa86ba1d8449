use Rattle.std.proofs.Common.{◌∙◌}
use Rattle.mc_run.specs.AuditPieces.{audited_value}
use Rattle.mc_run.specs.AuditedFiles.{is_whole}
use Rattle.mc_run.proofs.AuditEndLemmas.{end_objects-parts}
use Rattle.mc_run.proofs.audit.audit_end.push_end_objects.Goals as goal

-- The parts are appended in the order of the definition; the topology is the domain's, and the count of wants
-- is that of the caller.
pub returns : goal.returns
returns c =
    end_objects-parts c.args.audited.now.options c.topology-topology.result.now
    (audited_value c.args.audited.now).domain.topology (audited_value c.args.audited.now).summary
    (audited_value c.args.audited.now).asked c.args.audited.now.excluded.now
    (is_whole (audited_value c.args.audited.now)) c.deref.result.now _ _ _ _ _
    c.push_summary_line.result _ _ _ _ _
    c.topology-topology.ensures.topology (c.deref.ensures.value ∙ c.in_ok-routers.ensures) c.requires.asked
    c.in_ok-push_unlisted_lines.ensures.lines c.in_ok-push_asked_lines.ensures
    c.in_ok-push_without_line.ensures c.push_summary_line.ensures.line
