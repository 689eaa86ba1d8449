use Rattle.std.proofs.Common.{ℕ, [], ◌≡◌, map, take}
use Rattle.mc_asked.proofs.shared_pairs.without_lans.Given as goal

-- The pairs so far are there, each with no LAN.
abbrev pub invariant-loop-pair : goal.invariant-loop-pair
invariant-loop-pair l = l.shared.items ≡ map (λ (pair : ℕ × ℕ). (pair, [])) (take l.pair-index l.fn.pairs)
