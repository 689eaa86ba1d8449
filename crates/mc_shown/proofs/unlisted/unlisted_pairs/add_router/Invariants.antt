use Rattle.std.proofs.Common.{◌≡◌, map, take}
use Rattle.mc_shown.proofs.UnlistedPairLemmas.{with_routers_so_far}
use Rattle.mc_shown.proofs.unlisted.unlisted_pairs.add_router.Given as goal

-- each pair has the routers with lower numbers, and this one if it is among its own pairs so far
abbrev pub invariant-loop-pair : goal.invariant-loop-pair
invariant-loop-pair l =
    l.shown.items ≡ map (with_routers_so_far l.fn.summary l.fn.router (take l.pair-index l.own)) l.fn.pairs
