use Rattle.std.proofs.Common.{◌≡◌, map}
use Rattle.mc_topology.specs.Topology.{router_name}
use Rattle.mc_theory.specs.Lists.{below}
use Rattle.mc_run.specs.AuditBegin.{is_among}
use Rattle.mc_run.proofs.excluded.excluded_marks.Given as goal

-- the marks so far
abbrev pub invariant-loop-number : goal.invariant-loop-number
invariant-loop-number l =
    l.marks.items ≡ map (λ r. is_among (map (λ name. name.now) l.without) (router_name l.topology r))
    (below l.number)
