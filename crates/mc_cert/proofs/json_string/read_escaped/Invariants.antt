use Rattle.std.proofs.Common.{length}
use Rattle.mc_cert.proofs.JsonStringLemmas.{UnescapedSoFar}
use Rattle.mc_cert.proofs.json_string.read_escaped.Given as goal

-- The string denotes the bytes so far and what its rest denotes.
abbrev pub invariant-loop-byte : goal.invariant-loop-byte
invariant-loop-byte l = UnescapedSoFar l.text l.bytes.items l.rest

-- Each byte or escape shortens the rest.
abbrev pub decreases-loop-byte : goal.decreases-loop-byte
decreases-loop-byte l = length l.rest
