use Rattle.std.specs.String.{string_bytes}
use Rattle.mc_run.specs.AuditPieces.{AreFlowsPushed, audited_value}
use Rattle.mc_run.proofs.audit.push_flows.Given as goal

-- the lines and the trees so far are those of the first flows
abbrev pub invariant-loop-flow : goal.invariant-loop-flow
invariant-loop-flow l =
    AreFlowsPushed (audited_value l.fn.audited) l.fn.audited.options l.flow l.flow_counts l.shown_trees
    (string_bytes l.initial.text) (string_bytes l.text)
