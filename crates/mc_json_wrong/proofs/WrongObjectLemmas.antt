-- The line of a flow with a finding is an object whose first key isn't the verdict's.
use Rattle.std.proofs.Common.{ℕ, List, refl}
use Rattle.mc_tables.specs.Summary.{SummaryValue}
use Rattle.mc_topology.specs.Topology.{flow_at}
use Rattle.mc_topology.specs.declared.flow.Flow.{Flow}
use Rattle.mc_forward.specs.ListedTables.{DomainFacts}
use Rattle.mc_explain.specs.ExplanationValues.{ExplanationValue}
use Rattle.json.specs.Print.{escape_byte}
use Rattle.mc_json.specs.ObjectLines.{AreObjectLines}
use Rattle.mc_json.specs.RowData.{line_of}
use Rattle.mc_json.proofs.ObjectLemmas.{are_object_lines-one}
use Rattle.mc_json_wrong.specs.WrongData.{WrongFlow, wrong_data}
use Rattle.mc_json_wrong.specs.WrongLine.{FoundTravelValue, wrong_flow_of, wrong_line}

-- a flow with a finding, of given members
pub are_object_lines-wrong_flow : (number : ℕ) (f : Flow) (w : WrongFlow)
    → AreObjectLines (line_of (wrong_data number f w))
unfolding escape_byte
are_object_lines-wrong_flow number f w = are_object_lines-one (wrong_data number f w) refl refl

-- so it is for the line that is written
pub are_object_lines-wrong : (d : DomainFacts) (summary : List SummaryValue) (found : FoundTravelValue)
    (x : ExplanationValue) → AreObjectLines (wrong_line d summary found x)
are_object_lines-wrong d summary found x = are_object_lines-wrong_flow found.flow
    (flow_at d.topology found.flow) (wrong_flow_of d summary found x)
