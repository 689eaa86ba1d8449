use Rattle.std.proofs.Common.{◌∙◌}
use Rattle.mc_run.specs.AuditPieces.{audited_value}
use Rattle.mc_run.specs.AuditedFiles.{is_whole}
use Rattle.mc_run.proofs.AuditEndLemmas.{end_text-parts}
use Rattle.mc_run.proofs.audit.audit_end.push_end_text.Goals as goal

-- The parts are appended in the order of the definition; the topology is the domain's, and both lists of
-- excluded routers are the marked ones.
pub returns : goal.returns
returns c =
    end_text-parts c.args.audited.now.options c.topology-topology.result.now
    (audited_value c.args.audited.now).domain.topology (audited_value c.args.audited.now).summary
    (audited_value c.args.audited.now).asked c.args.audited.now.excluded.now c.deref.result.now
    c.deref-2.result.now (is_whole (audited_value c.args.audited.now)) c.args.all _ _ _ _ _ _
    c.push_strict.result _ _ _ _ _ _ _
    c.topology-topology.ensures.topology c.flows.ensures.count
    (c.deref.ensures.value ∙ c.in_ok-routers.ensures) (c.deref-2.ensures.value ∙ c.in_ok-routers.ensures)
    c.requires.asked c.in_ok-push_unlisted.ensures.lines c.in_ok-push_asked_lines.ensures
    c.in_ok-push_excluded_routers.ensures c.in_ok-push_summary.ensures
    c.in_ok-push_verdict_reason.ensures c.push_strict.ensures
