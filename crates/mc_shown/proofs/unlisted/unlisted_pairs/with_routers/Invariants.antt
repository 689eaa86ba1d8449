use Rattle.std.proofs.Common.{◌≡◌, map}
use Rattle.mc_shown.specs.UnlistedPairs.{with_routers_below}
use Rattle.mc_shown.proofs.unlisted.unlisted_pairs.with_routers.Given as goal

-- each pair has those of the routers so far whose summaries have it
abbrev pub invariant-loop-number : goal.invariant-loop-number
invariant-loop-number l = l.shown.items ≡ map (with_routers_below l.fn.summary l.number) l.fn.pairs
