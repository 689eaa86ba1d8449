use Rattle.mc_run.specs.AuditPieces.{audited_value}
use Rattle.mc_run.proofs.FlowPushedLemmas.{is_flow_pushed-right, is_flow_pushed-any_shown_trees}
use Rattle.mc_run.proofs.audit.audit_flow.push_examined.Goals as goal

-- The entries were checked to be accepted, and their lines are those of a right flow; the tree is printed at
-- most once.
pub returns-in-Certified : goal.returns-in-Certified
returns-in-Certified c = record {
  ok = (
      is_flow_pushed-right (audited_value c.args.audited.now) c.args.audited.now.options c.args.flow
      c.push_checked.result
      c.args.flights.now c.in-Certified.entries c.deref.result.now _ _ _ _ c.requires.flow
      c.requires.flights c.requires.examined c.in-Certified.is c.deref.ensures.value
      c.push_checked.ensures.headline c.push_checked.ensures.flow_status c.push_checked.ensures.shown_trees
      c.push_checked.ensures.lines);
}

-- A finding prints no tree, so that what holds for any printed trees holds for these.
pub returns-in-FoundAtTtl255 : goal.returns-in-FoundAtTtl255
returns-in-FoundAtTtl255 c = record {
  ok = (
      is_flow_pushed-any_shown_trees (audited_value c.args.audited.now) c.args.audited.now.options c.args.flow
      c.push_found_at_255.result _ _
      c.args.shown_trees.now c.push_found_at_255.ensures.ok);
}

-- So it is for a finding at the flow's own TTL.
pub returns-in-FoundAtFlowTtl : goal.returns-in-FoundAtFlowTtl
returns-in-FoundAtFlowTtl c = record {
  ok = (
      is_flow_pushed-any_shown_trees (audited_value c.args.audited.now) c.args.audited.now.options c.args.flow
      c.push_found_at_flow_ttl.result _ _
      c.args.shown_trees.now c.push_found_at_flow_ttl.ensures.ok);
}
