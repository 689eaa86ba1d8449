use Rattle.std.proofs.Common.{◌≡◌, ℕ, map, take}
use Rattle.mc_asked.specs.ListWants.{any_source}
use Rattle.mc_asked.proofs.asked_lines.service_pairs.Given as goal

-- The pairs are the wants of any source of the groups so far.
abbrev pub invariant-loop-group : goal.invariant-loop-group
invariant-loop-group l =
    l.pairs.items ≡ map (λ (group : ℕ). (group, any_source)) (take l.group-index l.group-items)
