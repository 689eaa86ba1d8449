use Rattle.std.proofs.Common.{◌≡◌, ◌++◌, flat_map}
use Rattle.mc_lines.specs.FlowContext.{flow_context}
use Rattle.mc_lines.specs.SearchLines.{search_items, shown_items}
use Rattle.mc_lines.proofs.sentences.search_lines.add_shown_lines.Given as goal

-- the lines so far, and those that are left
abbrev pub invariant-loop-line : goal.invariant-loop-line
invariant-loop-line g l =
    g.S.LineSink.items l.sink
    ++ flat_map (shown_items g.S.LineSink.items_of (flow_context l.fn.context)) l.line-iterator
    ≡ g.S.LineSink.items l.initial.sink
    ++ search_items g.S.LineSink.items_of (flow_context l.fn.context) l.fn.lines
