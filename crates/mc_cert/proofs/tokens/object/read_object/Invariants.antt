use Rattle.std.proofs.Common.{length}
use Rattle.serde_json.specs.Data.{Members}
use Rattle.mc_cert.proofs.TokenLemmas.{ObjectSoFar}
use Rattle.mc_cert.proofs.tokens.object.read_object.Given as goal

-- The fields are what was read of the members so far.
abbrev pub invariant-members : goal.invariant-members
invariant-members g l = (ms : Members) × ObjectSoFar g.F.Fields.levels l.initial.reader ms l.reader
    × g.F.Fields.holds l.topology l.fields ms

-- Each member leaves fewer tokens.
abbrev pub decreases-members : goal.decreases-members
decreases-members g l = length l.reader
