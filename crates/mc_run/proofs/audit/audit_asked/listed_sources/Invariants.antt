use Rattle.std.proofs.Common.{◌≡◌, take}
use Rattle.mc_shown.specs.AskedText.{listed_sources}
use Rattle.mc_forward.specs.ListedTables.{flow_pairs}
use Rattle.mc_run.proofs.audit.audit_asked.listed_sources.Given as goal

-- those of the flows so far
abbrev pub invariant-loop-number : goal.invariant-loop-number
invariant-loop-number l =
    l.sources.items ≡ listed_sources (flow_pairs (take l.number l.fn.topology.flows)) l.group
