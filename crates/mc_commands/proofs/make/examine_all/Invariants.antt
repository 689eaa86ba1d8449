use Rattle.std.specs.String.{string_bytes}
use Rattle.mc_commands.proofs.MadeSoFarLemmas.{AreMadeSoFar}
use Rattle.mc_commands.proofs.make.examine_all.Given as goal

-- the lists and the lines so far are those of the first flows
abbrev pub invariant-loop-flow : goal.invariant-loop-flow
invariant-loop-flow l =
    AreMadeSoFar l.fn.domain l.flow l.lists (string_bytes l.lines)
