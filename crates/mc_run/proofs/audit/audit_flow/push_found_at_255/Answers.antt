use Rattle.std.proofs.Common.{ap}
use Rattle.mc_maker.specs.ExaminedFlights.{without_flights}
use Rattle.mc_forward.specs.ListedTables.{facts}
use Rattle.mc_run.specs.AuditFlowText.{wrong_flow_lines}
use Rattle.mc_run.specs.AuditPieces.{audited_value, explanation_in, status_of_wrong_flow}
use Rattle.mc_run.specs.AuditedFiles.{is_whole}
use Rattle.mc_run.proofs.FlowPushedLemmas.{is_flow_pushed-added, is_flow_pushed-status, is_flow_pushed-wrong}
use Rattle.mc_run.proofs.ExplanationLemmas.{is_finished_travel-at_255, is_explanation-at_255}
use Rattle.mc_run.proofs.audit.audit_flow.push_found_at_255.Goals as goal

-- The flights of a finding at TTL 255 hold the finished travel of such a packet, which is what the search and
-- the TTLs are asked of.
pub search_if_missed-requires-clause-ended : goal.search_if_missed-requires-clause-ended
search_if_missed-requires-clause-ended c =
    is_finished_travel-at_255 (audited_value c.args.audited.now).domain c.args.flow
    c.args.flights.now c.args.ended.now
    c.requires.found c.requires.flights

-- It is the same travel as the search has.
pub shown_by-requires-clause-ended : goal.shown_by-requires-clause-ended
shown_by-requires-clause-ended c =
    is_finished_travel-at_255 (audited_value c.args.audited.now).domain c.args.flow
    c.args.flights.now c.args.ended.now
    c.requires.found c.requires.flights

-- The causes, the search, what is behind a stray and the TTLs together are the explanation of this
-- examination, so that the lines of `push_wrong` are those of the flow. They print no tree, whichever were
-- printed before.
pub returns : goal.returns
returns c = record {
  ok = (
      let a = c.args.audited.now in
      let v = audited_value a in
      let o = a.options in
      let ended = c.args.ended.now in
      let causes = c.in_ok-causes.causes.items in
      let found = c.in_ok-search.search in
      let behind = c.in_ok-behind.behind in
      let shown = c.in_ok-shown_by.shown_by in
      let x = explanation_in (is_whole v) ended causes found behind shown in
      is_flow_pushed-status v o c.args.flow c.push_wrong.result (status_of_wrong_flow a found) _ _
      c.push_wrong.ensures.flow_status
      (is_flow_pushed-added v o c.args.flow c.push_wrong.result (status_of_wrong_flow a found) _ _
      (wrong_flow_lines o (facts v.domain) v.summary c.args.flow 255 ended.travel x)
      (λ written puts. is_flow_pushed-wrong v o c.args.flow c.args.flights.now 255 ended.travel x _ written
      c.requires.flow c.requires.flights
      c.requires.examined (ap (without_flights v.domain c.args.flow) c.requires.found)
      (is_explanation-at_255 v c.args.flow c.args.flights.now ended causes found behind shown
      c.requires.found c.requires.flights c.in_ok-causes.ensures.causes c.in_ok-search.ensures.search
      c.in_ok-behind.ensures.behind c.in_ok-shown_by.ensures.shown) puts)
      c.push_wrong.ensures.added));
}
