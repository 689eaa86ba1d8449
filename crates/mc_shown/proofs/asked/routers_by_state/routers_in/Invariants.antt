use Rattle.std.proofs.Common.{◌≡◌, filter}
use Rattle.std.specs.Prelude.{slice_get}
use Rattle.mc_theory.specs.Lists.{below}
use Rattle.mc_asked.specs.Forwarding.{has_state}
use Rattle.mc_shown.proofs.asked.routers_by_state.routers_in.Given as goal

-- the list has the routers so far that are in the state
abbrev pub invariant-loop-router : goal.invariant-loop-router
invariant-loop-router l =
    l.routers.items ≡ filter (λ r. has_state l.state (slice_get l.states r)) (below l.router)
