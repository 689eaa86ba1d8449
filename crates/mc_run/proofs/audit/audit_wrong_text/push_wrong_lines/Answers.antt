use Rattle.std.proofs.Common.{ap, ◌∙◌}
use Rattle.mc_topology.specs.Topology.{flow_at}
use Rattle.mc_forward.specs.FlightsInDomain.{FlowOfDomain}
use Rattle.mc_explain.specs.ExplanationValues.{explanation_value}
use Rattle.mc_run.specs.AuditPieces.{audited_value}
use Rattle.mc_run.proofs.ExplanationLemmas.{wrong_lines-pushed}
use Rattle.mc_run.proofs.audit.audit_wrong_text.push_wrong_lines.Goals as goal

-- Four texts are appended one after another, each of the flow that the topology lists at this number; that
-- they are one text is regrouping.
pub returns : goal.returns
returns c = record {
  added = (
      wrong_lines-pushed (audited_value c.args.audited.now) c.args.flow
      c.args.audited.now.options.travels c.args.travel.now (explanation_value c.args.explanation.now)
      c.topology-topology.result.now c.flow-listed.result c.push_travel.result _ _ _ _ _
      c.topology-topology.ensures.topology
      (c.flow-listed.ensures
      ∙ ap (λ (w : FlowOfDomain). flow_at w.domain.topology w.flow) c.new-view.ensures.flow)
      c.in_ok-push_found_flow.ensures c.in_ok-push_shown_by.ensures
      c.in_ok-push_explanation.ensures.added c.push_travel.ensures);
}
