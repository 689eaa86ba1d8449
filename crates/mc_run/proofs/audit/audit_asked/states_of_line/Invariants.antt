use Rattle.std.proofs.Common.{◌≡◌, map}
use Rattle.std.specs.Prelude.{slice_get}
use Rattle.mc_theory.specs.Lists.{below}
use Rattle.mc_run.specs.AuditAsked.{state_at}
use Rattle.mc_run.proofs.audit.audit_asked.states_of_line.Given as goal

-- those so far
abbrev pub invariant-loop-router : goal.invariant-loop-router
invariant-loop-router l =
    l.own.items ≡ map (λ r. state_at l.number (slice_get l.states r)) (below l.router)
