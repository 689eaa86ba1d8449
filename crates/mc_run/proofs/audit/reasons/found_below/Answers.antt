use Rattle.std.proofs.Common.{◌≡◌, ◌==◌, ℕ, Option, Some, ap, sym, subst, ◌∙◌}
use Rattle.std.specs.Prelude.{option_map, slice_get, unwrap_or}
use Rattle.std.proofs.lemmas.List.{length-map}
use Rattle.mc_topology.specs.Topology.{TopologyValue}
use Rattle.mc_topology.specs.declared.flow.Flow.{Flow}
use Rattle.mc_forward.specs.Domains.{ttl_of}
use Rattle.mc_replay.specs.declared.finding.Finding.{Finding}
use Rattle.mc_run.specs.AuditExplanation.{IsFoundBelow}
use Rattle.mc_run.specs.AuditPieces.{audited_value}
use Rattle.mc_run.specs.AuditedFiles.{is_whole}
use Rattle.mc_run.proofs.ExplanationLemmas.{is_found_below-less}
use Rattle.mc_run.proofs.audit.reasons.found_below.Goals as goal

-- The flow's own TTL is less than the one from which on packets show the finding, since the test for the
-- other case failed. So the finding of a packet with it is printed, as far as it is certain.
pub returns : goal.returns
returns c = record {
  found = (
      let v = audited_value c.args.audited.now in
      let flow = c.args.flow in
      let listed : slice_get v.domain.topology.flows flow ≡ Some c.flow.result.now =
      ap (λ (t : TopologyValue). slice_get t.flows flow) (sym c.topology.ensures.topology)
      ∙ c.flow.ensures.flow in
      let own : c.flow.result.now.ttl ≡ ttl_of v.domain flow =
      sym (ap (λ (o : Option Flow). unwrap_or (option_map (λ f. f.ttl) o) 0) listed) in
      let whole : c.is_empty.result ≡ is_whole v = c.is_empty.ensures
      ∙ ap (λ (k : ℕ). k == 0) (sym (length-map c.args.audited.now.without.now (λ name. name.now))) in
      subst (λ (o : Option Finding). IsFoundBelow (is_whole v) v.domain flow c.args.shown_from o)
      (sym c.certain_finding.ensures)
      (is_found_below-less (is_whole v) c.is_empty.result v.domain flow c.flow.result.now.ttl c.in-Some.from
      c.args.shown_from c.in_ok-travel.travel own c.in-Some.is c.if-from-ttl.false whole
      c.in_ok-travel.ensures.run));
}
