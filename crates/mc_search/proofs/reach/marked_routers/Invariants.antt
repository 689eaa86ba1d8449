use Rattle.std.proofs.Common.{◌≡◌, ℕ, Bool, take, filter}
use Rattle.mc_search.specs.BucketsAndMarks.{AreMarksOf}
use Rattle.mc_search.proofs.reach.marked_routers.Given as goal

-- the list has the routers so far that are marked, whatever test the marks are of
abbrev pub invariant-loop-router : goal.invariant-loop-router
invariant-loop-router l = (p : ℕ → Bool) → AreMarksOf p l.fn.marks →
    l.found.items ≡ filter p (take l.router-index l.fn.routers)
