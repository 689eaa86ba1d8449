use Rattle.std.proofs.Common.{◌≡◌, ◌++◌, flat_map, map, take}
use Rattle.std.specs.String.{string_bytes}
use Rattle.mc_lines.specs.FlowContext.{flow_context}
use Rattle.mc_lines.specs.GivenLines.{given_text, named_fact}
use Rattle.mc_lines.specs.Filled.{indented_sentence}
use Rattle.mc_lines.proofs.text_sink.push_each_indented.Given as goal

-- the sentences so far are written, a line each
abbrev pub invariant-loop-sentence : goal.invariant-loop-sentence
invariant-loop-sentence l =
    string_bytes l.text ≡ string_bytes l.initial.text
    ++ flat_map (indented_sentence l.fn.indent (flow_context l.fn.context) (map named_fact l.fn.facts))
    (map given_text (take l.sentence-index l.sentences))
