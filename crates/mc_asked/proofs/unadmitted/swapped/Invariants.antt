use Rattle.std.proofs.Common.{◌≡◌, ℕ, map, take}
use Rattle.mc_asked.proofs.unadmitted.swapped.Given as goal

-- The pairs so far are there, each swapped.
abbrev pub invariant-loop-pair : goal.invariant-loop-pair
invariant-loop-pair l = l.swapped.items ≡ map (λ (p : ℕ × ℕ). (p.1, p.0)) (take l.pair-index l.fn.pairs)
