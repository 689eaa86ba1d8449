use Rattle.std.proofs.Common.{None, ap, ◌∙◌}
use Rattle.mc_maker.specs.ExaminedFlights.{without_flights}
use Rattle.mc_forward.specs.ListedTables.{facts}
use Rattle.mc_run.specs.AuditFlowText.{wrong_flow_lines}
use Rattle.mc_run.specs.AuditPieces.{audited_value, explanation_in, status_of_wrong_flow}
use Rattle.mc_run.specs.AuditedFiles.{is_whole}
use Rattle.mc_run.proofs.FlowPushedLemmas.{is_flow_pushed-added, is_flow_pushed-status}
use Rattle.mc_run.proofs.FlowPushedLemmas.{is_flow_pushed-wrong, found-ttl_of_view}
use Rattle.mc_run.proofs.ExplanationLemmas.{is_explanation-at_flow_ttl, unsaid}
use Rattle.mc_run.proofs.audit.audit_flow.push_found_at_flow_ttl.Goals as goal

-- Only the causes are explained of such a finding: there is no search, nothing behind it and no TTL. The TTL
-- that is printed is the flow's own, as its view has it.
pub returns : goal.returns
returns c = record {
  ok = (
      let a = c.args.audited.now in
      let v = audited_value a in
      let o = a.options in
      let least = c.args.least.now in
      let causes = c.in_ok-causes.causes.items in
      let ttl = c.ttl-ttl.result in
      let x = explanation_in (is_whole v) least causes None None unsaid in
      is_flow_pushed-status v o c.args.flow c.push_wrong.result (status_of_wrong_flow a None) _ _
      c.push_wrong.ensures.flow_status
      (is_flow_pushed-added v o c.args.flow c.push_wrong.result (status_of_wrong_flow a None) _ _
      (wrong_flow_lines o (facts v.domain) v.summary c.args.flow ttl least.travel x)
      (λ written puts. is_flow_pushed-wrong v o c.args.flow c.args.flights.now ttl least.travel x _ written
      c.requires.flow c.requires.flights c.requires.examined
      (ap (without_flights v.domain c.args.flow) c.requires.found
      ∙ found-ttl_of_view v.domain c.args.flow ttl c.new-view.result least.travel c.new-view.ensures.flow
      c.ttl-ttl.ensures)
      (is_explanation-at_flow_ttl v c.args.flow c.args.flights.now c.args.greatest.now least causes
      c.requires.found c.requires.flights c.in_ok-causes.ensures.causes) puts)
      c.push_wrong.ensures.added));
}
