-- The line of a flow with a finding, in JSON (docs/FORMATS.md, "What `audit --json` writes"), by the travel
-- that shows the finding, and the explanation.
use Rattle.std.specs.Prelude.{ℕ, List, Option, map, option_map}
use Rattle.mc_tables.specs.Summary.{SummaryValue}
use Rattle.mc_topology.specs.Topology.{flow_at}
use Rattle.mc_theory.specs.Events.{Event}
use Rattle.mc_forward.specs.ListedTables.{DomainFacts}
use Rattle.mc_replay.specs.declared.finding.Finding.{Finding}
use Rattle.mc_explain.specs.ExplanationValues.{ExplanationValue}
use Rattle.mc_shown.specs.WantedText.{lans_wanting}
use Rattle.serde_json.specs.Data.{Data}
use Rattle.mc_json_wrong.specs.BehindData.{behind_data}
use Rattle.mc_json.specs.FlowData.{event_data, finding_data, optional_finding_data}
use Rattle.mc_json_wrong.specs.WrongData.{WrongFlow, wrong_data}
use Rattle.mc_json.specs.RowData.{lan_data, line_of}
use Rattle.mc_json_wrong.specs.WhyData.{why_data}
use Rattle.mc_json_wrong.specs.declared.wrong_line.FoundTravel.{FoundTravel}

-- The travel that shows what a flow's packet meets.
pub record FoundTravelValue : Type 0 where
  -- the flow's number
  pub flow : ℕ
  -- what the packet meets
  pub finding : Finding
  -- the TTL with which it was sent
  pub found_ttl : ℕ
  -- the events of its travel, if they are asked for
  pub events : Option (List Event)

-- such a travel as a value
abbrev pub found_travel_value : FoundTravel → FoundTravelValue
found_travel_value found = record {
  flow = found.flow;
  finding = found.finding;
  found_ttl = found.found_ttl;
  events = option_map (λ events. events.now) found.events;
}

-- what is written of the travel's flow, beside its number, addresses and TTL
abbrev pub wrong_flow_of : DomainFacts → List SummaryValue → FoundTravelValue → ExplanationValue → WrongFlow
wrong_flow_of domain summary found explanation = record {
  certainty = explanation.certainty;
  also = map (lan_data domain.topology) explanation.also;
  at_flow_ttl = optional_finding_data domain.topology explanation.certainty.shown_by.at_flow_ttl;
  behind = behind_data domain summary found.flow explanation.behind;
  events = option_map (map (event_data domain.topology (domain.nets found.flow))) found.events;
  finding = finding_data domain.topology found.finding;
  found_ttl = found.found_ttl;
  wanted = map (lan_data domain.topology) (lans_wanting domain found.flow);
  why = why_data domain summary found.flow explanation.printed explanation.search;
}

-- the object of the travel's flow
abbrev pub found_flow_data : DomainFacts → List SummaryValue → FoundTravelValue → ExplanationValue → Data
found_flow_data domain summary found explanation =
    wrong_data found.flow (flow_at domain.topology found.flow)
    (wrong_flow_of domain summary found explanation)

-- the line of the travel's flow
abbrev pub wrong_line : DomainFacts → List SummaryValue → FoundTravelValue → ExplanationValue → List ℕ
wrong_line domain summary found explanation = line_of (found_flow_data domain summary found explanation)
