use Rattle.std.proofs.Common.{◌≡◌, ◌+◌, ◌-◌, ◌++◌, take, length, flat_map}
use Rattle.std.specs.String.{string_bytes}
use Rattle.mc_search.specs.ShownLines.{shown_lines}
use Rattle.mc_lines.specs.Filled.{line_text}
use Rattle.mc_lines.specs.FlowContext.{flow_context}
use Rattle.mc_lines.specs.SearchLines.{shown_items}
use Rattle.mc_lines.proofs.explanation_text.push_first_lines.Given as goal

-- the text so far, and the lines of the first 40 that are left, are the first 40; and how many lines came
abbrev pub invariant-loop-line : goal.invariant-loop-line
invariant-loop-line l = record {
  text : string_bytes l.text
      ++ flat_map (shown_items line_text (flow_context l.fn.context)) (take (40 - l.count) l.line-iterator)
      ≡ string_bytes l.initial.text
      ++ flat_map (shown_items line_text (flow_context l.fn.context)) (take 40 (shown_lines l.fn.lines));
  count : l.count + length l.line-iterator ≡ length (shown_lines l.fn.lines);
}
