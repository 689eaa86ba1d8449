use Rattle.std.proofs.Common.{◌-◌, length}
use Rattle.mc_cert.proofs.JsonStringLemmas.{StringSoFar}
use Rattle.mc_cert.proofs.json_string.read_string.Given as goal

-- Each byte so far denotes itself.
abbrev pub invariant-loop-end : goal.invariant-loop-end
invariant-loop-end l = StringSoFar l.text l.end

-- The end comes one byte nearer to that of the text.
abbrev pub decreases-loop-end : goal.decreases-loop-end
decreases-loop-end l = length l.text - l.end
