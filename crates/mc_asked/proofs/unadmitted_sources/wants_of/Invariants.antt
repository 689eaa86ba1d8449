use Rattle.std.proofs.Common.{◌≡◌, ℕ, List, map, take}
use Rattle.mc_asked.proofs.unadmitted_sources.wants_of.Given as goal

-- The wants are those of the lines so far.
abbrev pub invariant-loop-line : goal.invariant-loop-line
invariant-loop-line l =
    l.wants.items ≡ map (λ (line : (ℕ × ℕ) × List ℕ). line.0) (take l.line-index l.fn.lines)
