use Rattle.std.proofs.Common.{◌≡◌, take}
use Rattle.mc_forward.specs.ListedTables.{flow_pairs}
use Rattle.mc_forward.proofs.wants.source_group_pairs.Given as goal

-- The pairs so far are those of the flows so far.
abbrev pub invariant-loop-flow : goal.invariant-loop-flow
invariant-loop-flow l = l.pairs.items ≡ flow_pairs (take l.flow l.fn.topology.flows)
