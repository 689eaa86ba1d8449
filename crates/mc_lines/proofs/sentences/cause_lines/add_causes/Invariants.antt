use Rattle.std.proofs.Common.{◌≡◌, ◌++◌, take}
use Rattle.mc_lines.specs.CauseLines.{causes_items}
use Rattle.mc_lines.specs.FlowContext.{flow_context}
use Rattle.mc_lines.proofs.sentences.cause_lines.add_causes.Given as goal

-- the lines of the causes so far were added
abbrev pub invariant-loop-cause : goal.invariant-loop-cause
invariant-loop-cause g l =
    g.S.LineSink.items l.sink ≡ g.S.LineSink.items l.initial.sink
    ++ causes_items g.S.LineSink.items_of (flow_context l.fn.context) (take l.cause-index l.causes)
