use Rattle.std.proofs.Common.{◌≡◌, ◌++◌, ℕ, List, ap, ◌∙◌}
use Rattle.serde_json.specs.Data.{Data}
use Rattle.serde_json.specs.Written.{has_float}
use Rattle.mc_tables.specs.Summary.{SummaryValue}
use Rattle.mc_forward.specs.Domains.{DomainValue}
use Rattle.mc_forward.specs.FlightsInDomain.{FlowOfDomain}
use Rattle.mc_forward.specs.ListedTables.{facts}
use Rattle.mc_explain.specs.ExplanationValues.{ExplanationValue, explanation_value}
use Rattle.mc_json.specs.RowData.{line_of}
use Rattle.mc_json_wrong.specs.WrongLine.{FoundTravelValue, found_flow_data, found_travel_value, wrong_line}
use Rattle.mc_json_wrong.proofs.LineNoFloatLemmas.{no_float-found_flow_data}
use Rattle.mc_json_wrong.proofs.wrong_line.push_wrong_line.Goals as goal

-- the line by the view of a flow is that of the domain's flow
wrong_line-of_view : (d : DomainValue) (summary : List SummaryValue) (found : FoundTravelValue)
    (x : ExplanationValue) (view : FlowOfDomain) (value : Data) (old new : List ℕ)
    → view ≡ record { domain = d; flow = found.flow }
    → value ≡ found_flow_data (facts view.domain) summary found x → new ≡ old ++ line_of value
    → new ≡ old ++ wrong_line (facts d) summary found x
wrong_line-of_view d summary found x view value old new same is puts =
    puts ∙ ap (λ (y : Data). old ++ line_of y) is
    ∙ ap (λ (v : FlowOfDomain). old ++ line_of (found_flow_data (facts v.domain) summary found x)) same

-- Whatever was found and explains it is shown by texts, whole numbers, booleans and nulls, and by no float.
pub push_line-requires : goal.push_line-requires
push_line-requires c = record {
  no_float = ap has_float c.in_ok-value.ensures.value ∙ no_float-found_flow_data
      (facts c.new-view.result.domain) c.args.summary.now (found_travel_value c.args.found.now)
      (explanation_value c.args.explanation.now);
}

-- The line of this view is that of the domain's flow.
pub returns : goal.returns
returns c = record {
  line = wrong_line-of_view c.args.domain.now c.args.summary.now (found_travel_value c.args.found.now)
      (explanation_value c.args.explanation.now) c.new-view.result _ _ _ c.new-view.ensures.flow
      c.in_ok-value.ensures.value c.in_ok-push_line.ensures.added;
}
