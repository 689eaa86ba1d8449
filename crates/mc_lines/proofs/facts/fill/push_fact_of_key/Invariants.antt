use Rattle.std.proofs.Common.{◌≡◌, drop, map}
use Rattle.std.specs.String.{string_bytes}
use Rattle.mc_lines.specs.FlowContext.{flow_context}
use Rattle.mc_lines.specs.GivenLines.{named_fact}
use Rattle.mc_lines.specs.Filled.{text_of_key}
use Rattle.mc_lines.proofs.facts.fill.push_fact_of_key.Given as goal

-- nothing was written, and no fact so far has the key: the fact with it is among those left
abbrev pub invariant-loop-own : goal.invariant-loop-own
invariant-loop-own l = record {
  text : string_bytes l.text ≡ string_bytes l.initial.text;
  rest : text_of_key (flow_context l.fn.context) (map named_fact (drop l.own-index l.facts)) l.key
      ≡ text_of_key (flow_context l.fn.context) (map named_fact l.facts) l.key;
}
