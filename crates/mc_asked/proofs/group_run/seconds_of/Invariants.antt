use Rattle.std.proofs.Common.{◌≡◌, ℕ, ◌-◌, drop, map, take}
use Rattle.mc_asked.proofs.group_run.seconds_of.Given as goal

-- The second addresses are those of the run's pairs so far.
abbrev pub invariant-loop-place : goal.invariant-loop-place
invariant-loop-place l =
    l.seconds.items ≡ map (λ (p : ℕ × ℕ). p.1) (take (l.place - l.start) (drop l.start l.fn.pairs))
