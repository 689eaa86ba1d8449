use Rattle.std.proofs.Common.{◌≡◌}
use Rattle.mc_tests_readers.proofs.text.framing.fault_of.Given as goal

-- No read has failed yet.
abbrev pub invariant-parts : goal.invariant-parts
invariant-parts g l = l.parts.failed ≡ l.initial.parts.failed

-- Fewer parts may come.
abbrev pub decreases-parts : goal.decreases-parts
decreases-parts g l = l.parts.parts
