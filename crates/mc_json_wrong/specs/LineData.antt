-- A line of an explanation as a JSON object (docs/FORMATS.md, the member `why`): its kind, its facts by their
-- keys, and its sentences as `text`.
use Rattle.std.specs.Prelude.{ℕ, List, [], ◌∷◌, codes}
use Rattle.serde_json.specs.Data.{Data, Members, no_members, object, put, string}
use Rattle.mc_lines.specs.Filled.{joined_sentences}
use Rattle.mc_lines.specs.FlowContext.{FlowContext}
use Rattle.mc_lines.specs.Lines.{FactValue, Line}
use Rattle.mc_json_wrong.specs.FactData.{fact_data}

-- the members with one more for each fact, by its key
abbrev pub with_facts : FlowContext → List (List ℕ × FactValue) → Members → Members
with_facts context [] members = members
with_facts context (fact ∷ facts) members = with_facts context facts
    (put fact.0 (fact_data context fact.1) members)

-- the object of a line
abbrev pub line_data : FlowContext → Line → Data
line_data context line = object (put (codes "text")
    (string (joined_sentences context line.facts line.sentences))
    (with_facts context line.facts (put (codes "kind") (string line.kind) no_members)))

-- the object of a line, as a list of one
abbrev pub line_values : FlowContext → Line → List Data
line_values context line = line_data context line ∷ []
