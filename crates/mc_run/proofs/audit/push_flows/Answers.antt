use Rattle.mc_run.specs.AuditPieces.{audited_value}
use Rattle.mc_run.proofs.AuditFlows.{are_flows_pushed-more, count_right-below_limit}
use Rattle.mc_run.proofs.AuditFlows.{count_unwanted-below_limit, counted-few, trees_shown-at_most_flows}
use Rattle.mc_run.proofs.AuditFlows.{count_unknown-below_limit, count_wrong-below_limit}
use Rattle.mc_run.proofs.audit.push_flows.Goals as goal

-- Each count is at most the number of flows so far, one of the topology's flows is still to come, and a
-- topology has at most 4,096. So it is for the four counts and for the printed trees.
pub with-flow_counts-requires-clause-right : goal.with-flow_counts-requires-clause-right
with-flow_counts-requires-clause-right c =
    counted-few _ _ _ _ (count_right-below_limit _ _ _ _ _ _ _ c.loop-flow.invariant) c.loop-flow-test.true
    c.flows-flow-end.ensures.count c.flows-flow-end.ensures.rules.few_flows

pub with-flow_counts-requires-clause-wrong : goal.with-flow_counts-requires-clause-wrong
with-flow_counts-requires-clause-wrong c =
    counted-few _ _ _ _ (count_wrong-below_limit _ _ _ _ _ _ _ c.loop-flow.invariant) c.loop-flow-test.true
    c.flows-flow-end.ensures.count c.flows-flow-end.ensures.rules.few_flows

pub with-flow_counts-requires-clause-unknown : goal.with-flow_counts-requires-clause-unknown
with-flow_counts-requires-clause-unknown c =
    counted-few _ _ _ _ (count_unknown-below_limit _ _ _ _ _ _ _ c.loop-flow.invariant) c.loop-flow-test.true
    c.flows-flow-end.ensures.count c.flows-flow-end.ensures.rules.few_flows

pub with-flow_counts-requires-clause-unwanted : goal.with-flow_counts-requires-clause-unwanted
with-flow_counts-requires-clause-unwanted c =
    counted-few _ _ _ _ (count_unwanted-below_limit _ _ _ _ _ _ _ c.loop-flow.invariant) c.loop-flow-test.true
    c.flows-flow-end.ensures.count c.flows-flow-end.ensures.rules.few_flows

pub push_flow-requires-clause-room : goal.push_flow-requires-clause-room
push_flow-requires-clause-room c =
    counted-few _ _ _ _ (trees_shown-at_most_flows _ _ _ _ _ _ _ c.loop-flow.invariant) c.loop-flow-test.true
    c.flows-flow-end.ensures.count c.flows-flow-end.ensures.rules.few_flows

-- The lines of one more flow were appended, and its status was counted.
pub loop-flow-preserved : goal.loop-flow-preserved
loop-flow-preserved c =
    are_flows_pushed-more (audited_value c.args.audited.now) c.args.audited.now.options c.loop-flow.flow
    c.loop-flow.flow_counts
    c.in_ok-flow_status.flow_status c.with-flow_counts.result _ _ _ _ _ c.loop-flow.invariant
    c.in_ok-flow_status.ensures.ok c.with-flow_counts.ensures.value
