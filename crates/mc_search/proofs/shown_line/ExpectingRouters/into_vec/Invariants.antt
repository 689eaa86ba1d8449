use Rattle.std.proofs.Common.{◌≡◌, ◌++◌}
use Rattle.mc_search.proofs.shown_line.ExpectingRouters.into_vec.Given as goal

-- the routers so far, and those that are left
abbrev pub invariant-loop-router : goal.invariant-loop-router
invariant-loop-router l = l.list.items ++ l.router-iterator ≡ l.fn.self
