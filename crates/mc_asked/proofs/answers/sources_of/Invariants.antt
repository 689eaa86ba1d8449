use Rattle.std.proofs.Common.{◌≡◌, take}
use Rattle.mc_asked.specs.Answers.{source_pairs}
use Rattle.mc_asked.proofs.answers.sources_of.Given as goal

-- The pairs are those of the topology's sources so far.
abbrev pub invariant-loop-number : goal.invariant-loop-number
invariant-loop-number l = l.sources.items ≡ source_pairs (take l.number l.fn.topology.sources)
