use Rattle.std.proofs.Common.{◌≡◌, ◌++◌, drop}
use Rattle.std.specs.String.{string_bytes}
use Rattle.mc_commands.specs.VerdictText.{flow_lines}
use Rattle.mc_commands.proofs.shown.verdict_text.check_text.Given as goal

-- the lines so far, and those of the flows that are left, are the lines of all
abbrev pub invariant-loop-flow : goal.invariant-loop-flow
invariant-loop-flow l =
    string_bytes l.text
    ++ flow_lines l.fn.topology (drop l.flow l.fn.topology.flows) (drop l.flow l.fn.verdicts)
    ≡ flow_lines l.fn.topology l.fn.topology.flows l.fn.verdicts
