use Rattle.std.proofs.Common.{◌≡◌, filter}
use Rattle.mc_theory.specs.Lists.{below}
use Rattle.mc_search.specs.SearchLine.{is_excluded}
use Rattle.mc_shown.proofs.excluded.list_excluded_routers.Given as goal

-- the list has the routers so far that are marked
abbrev pub invariant-loop-number : goal.invariant-loop-number
invariant-loop-number l =
    l.routers.items ≡ filter (is_excluded l.excluded) (below l.number)
