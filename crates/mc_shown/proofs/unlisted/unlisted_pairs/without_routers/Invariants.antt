use Rattle.std.proofs.Common.{ℕ, [], ◌≡◌, map, take}
use Rattle.mc_shown.proofs.unlisted.unlisted_pairs.without_routers.Given as goal

-- the list has the pairs so far, each without routers
abbrev pub invariant-loop-group : goal.invariant-loop-group
invariant-loop-group l = l.shown.items ≡ map (λ (pair : ℕ × ℕ). (pair, [])) (take l.group-index l.fn.pairs)
