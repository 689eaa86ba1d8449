-- The lines of a flow in the JSON of an audit (docs/FORMATS.md, "What `audit --json` writes"). `printed` are
-- the keys of the trees that earlier lines have printed.
use Rattle.std.specs.Prelude.{ℕ, Bool, List, [], ◌++◌, map, length, is_some, if◌then◌else◌, Option, Some}
use Rattle.std.specs.Prelude.{None}
use Rattle.mc_tables.specs.Summary.{SummaryValue}
use Rattle.mc_topology.specs.Topology.{flow_at}
use Rattle.mc_forward.specs.ListedTables.{DomainFacts}
use Rattle.mc_cert.specs.Certificate.{Tree}
use Rattle.mc_cert.specs.Distinct.{find_tree, tree_number_of, with_tree}
use Rattle.mc_theory.specs.Events.{Event}
use Rattle.mc_replay.specs.declared.travel.Travel.{Travel}
use Rattle.mc_json.specs.FlowData.{right_data, tree_data}
use Rattle.mc_json.specs.RowData.{lan_data, line_of}
use Rattle.mc_json.specs.TreeKey.{tree_key}
use Rattle.mc_json_wrong.specs.WrongLine.{FoundTravelValue, wrong_line}
use Rattle.mc_explain.specs.ExplanationValues.{ExplanationValue}

-- ---- a flow that is right

-- the key of a flow's tree; trees with the same key are one
abbrev pub key_of_tree : DomainFacts → (flow : ℕ) → Tree → Tree
key_of_tree domain flow tree = tree_key (domain.nets flow) tree

-- the line of a flow's tree; nothing if it was printed before
abbrev pub tree_line : DomainFacts → (printed : List Tree) → (flow : ℕ) → Tree → List ℕ
tree_line domain printed flow tree =
    if is_some (find_tree printed (key_of_tree domain flow tree)) then []
    else line_of (tree_data domain.topology (domain.nets flow) tree (length printed))

-- the number of a flow's tree, in the order in which trees are printed
abbrev pub tree_number : DomainFacts → (printed : List Tree) → (flow : ℕ) → Tree → ℕ
tree_number domain printed flow tree =
    tree_number_of (with_tree printed (key_of_tree domain flow tree)) (key_of_tree domain flow tree)

-- the line of a right flow's tree, if need be, and the line of the flow, with its tree's number and the LANs
-- that want it
abbrev pub right_objects : (whole : Bool) → DomainFacts → (printed : List Tree) → (flow : ℕ) → Tree
    → (wanted : List ℕ) → List ℕ
right_objects whole domain printed flow tree wanted =
    tree_line domain printed flow tree
    ++ line_of (right_data whole flow (flow_at domain.topology flow) (length tree)
    (tree_number domain printed flow tree)
    (map (lan_data domain.topology) wanted))

-- ---- a flow with a finding

-- the events of a travel, with the option travel
abbrev pub events_asked : (travels : Bool) → Travel → Option (List Event)
events_asked travels travel = if travels then Some travel.events.items else None

-- the travel that shows the finding of the flow with this number, with the TTL of its packet
abbrev pub found_travel : (travels : Bool) → (flow ttl : ℕ) → Travel → FoundTravelValue
found_travel travels flow ttl travel = record {
  flow = flow;
  finding = travel.finding;
  found_ttl = ttl;
  events = events_asked travels travel;
}

-- the line of a flow with a finding: the finding, its explanation, and with the option travel the events
abbrev pub wrong_object : (travels : Bool) → DomainFacts → List SummaryValue → (flow ttl : ℕ) → Travel
    → ExplanationValue → List ℕ
wrong_object travels domain summary flow ttl travel explanation =
    wrong_line domain summary (found_travel travels flow ttl travel) explanation
