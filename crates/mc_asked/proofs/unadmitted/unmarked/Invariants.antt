use Rattle.std.proofs.Common.{◌≡◌, ℕ, Bool, filter, not, take}
use Rattle.mc_asked.specs.Unadmitted.{AreMarksOf}
use Rattle.mc_asked.proofs.unadmitted.unmarked.Given as goal

-- Those of the pairs so far that don't pass the test have been kept, where the marks are the test's.
abbrev pub invariant-loop-place : goal.invariant-loop-place
invariant-loop-place l = (test : ℕ × ℕ → Bool) → AreMarksOf test l.fn.pairs l.fn.marks →
    l.kept.items ≡ filter (λ p. not (test p)) (take l.place l.fn.pairs)
