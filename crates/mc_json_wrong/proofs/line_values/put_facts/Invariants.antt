use Rattle.std.proofs.Common.{◌≡◌, map, drop}
use Rattle.serde_json.specs.View.{members_view}
use Rattle.mc_lines.specs.FlowContext.{flow_context}
use Rattle.mc_lines.specs.GivenLines.{named_fact}
use Rattle.mc_json_wrong.specs.LineData.{with_facts}
use Rattle.mc_json_wrong.proofs.line_values.put_facts.Given as goal

-- the members so far, with those of the facts that are left
abbrev pub invariant-loop-key : goal.invariant-loop-key
invariant-loop-key l =
    with_facts (flow_context l.fn.context) (map named_fact (drop l.key-index l.facts))
    (members_view l.members.entries)
    ≡ with_facts (flow_context l.fn.context) (map named_fact l.facts)
    (members_view l.initial.members.entries)
