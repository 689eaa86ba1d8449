use Rattle.std.proofs.Common.{◌+◌}
use Rattle.mc_forward.proofs.FirstLemmas.{FirstCopiesSoFar}
use Rattle.mc_forward.proofs.first_copies.record_first_copies.Given as goal

-- the first copies among those done are stored, and `second` is the first with an earlier one
abbrev pub invariant-loop-copy : goal.invariant-loop-copy
invariant-loop-copy l = FirstCopiesSoFar l.firsts l.fn.firsts l.fn.copies (l.fn.seen + l.copy-index) l.second
