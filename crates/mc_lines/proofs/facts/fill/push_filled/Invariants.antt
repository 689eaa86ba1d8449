use Rattle.std.proofs.Common.{◌≡◌, ◌++◌, length, map}
use denote.Text.{Utf8}
use denote.Shadow.{shadow}
use Rattle.std.specs.String.{string_bytes}
use Rattle.mc_lines.specs.FlowContext.{flow_context}
use Rattle.mc_lines.specs.GivenLines.{named_fact}
use Rattle.mc_lines.specs.Filled.{text_of_key}
use Rattle.mc_lines.specs.Sentences.{filled}
use Rattle.mc_lines.proofs.facts.fill.push_filled.Given as goal

-- what is written so far, and then the rest filled, is the whole sentence filled
abbrev pub invariant-loop-words : goal.invariant-loop-words
invariant-loop-words l = record {
  utf8 : shadow (Utf8 l.rest);
  text : string_bytes l.text
      ++ filled (text_of_key (flow_context l.fn.context) (map named_fact l.facts)) l.rest
      ≡ string_bytes l.initial.text
      ++ filled (text_of_key (flow_context l.fn.context) (map named_fact l.facts)) l.sentence;
}

-- how much of the sentence is left
abbrev pub decreases-loop-words : goal.decreases-loop-words
decreases-loop-words l = length l.rest
