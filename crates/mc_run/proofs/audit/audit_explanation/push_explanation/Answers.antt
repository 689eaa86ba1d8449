use Rattle.mc_explain.specs.ExplanationValues.{explanation_value}
use Rattle.mc_run.specs.AuditPieces.{audited_value}
use Rattle.mc_run.proofs.ExplanationLemmas.{explanation_lines-pushed}
use Rattle.mc_run.proofs.audit.audit_explanation.push_explanation.Goals as goal

-- The causes, the search, the other missed LANs and what is behind a stray are appended in this order, which
-- is that of the definition.
pub returns : goal.returns
returns c = record {
  added = (
      explanation_lines-pushed (audited_value c.args.audited.now) c.args.flow
      (explanation_value c.args.explanation.now) c.topology.result.now c.push_behind_if_any.result _ _ _ _ _
      c.topology.ensures.topology c.in_ok-push_causes.ensures.lines
      c.in_ok-push_search_if_any.ensures.added c.in_ok-push_also_missed.ensures
      c.push_behind_if_any.ensures.added);
}
