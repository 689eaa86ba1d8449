-- The lines of an audit, as text or in JSON, about what hosts ask for and no flow answers (docs/FORMATS.md,
-- "What hosts ask for and no flow answers"). Lines are numbered from 0, in their order.
use Rattle.std.specs.Prelude.{ℕ, Bool, true, false, List, [], ◌++◌, Option, Some, None, flat_map, length}
use Rattle.std.specs.Prelude.{map, slice_get, unwrap_or}
use Rattle.mc_topology.specs.Topology.{TopologyValue}
use Rattle.mc_theory.specs.Lists.{below}
use Rattle.mc_forward.specs.ListedTables.{flow_pairs}
use Rattle.mc_asked.specs.ListWants.{Want}
use Rattle.mc_asked.specs.declared.forwarding.RouterState.{RouterState}
use Rattle.mc_asked.specs.declared.forwarding.RouterState.TheVariants.{Nothing}
use Rattle.mc_shown.specs.AskedText.{asked_more_text, asked_text, asked_text_of, services_text}
use Rattle.mc_shown.specs.declared.asked.asked_text.AskedLine.{AskedLine}
use Rattle.mc_input.specs.AskedOfFiles.{UnansweredWantsValue}
use Rattle.mc_json.specs.AskedData.{asked_data, asked_data_of, asked_more_line, asked_services_line}
use Rattle.mc_json.specs.RowData.{line_of}

-- what a router has for the want of the line with this number, by what it has for the want of each line;
-- nothing where that isn't known
abbrev pub state_at : (number : ℕ) → Option (List RouterState) → RouterState
state_at number None = Nothing
state_at number (Some own) = unwrap_or (slice_get own number) Nothing

-- what each router has for the want of the line with this number, in the topology's order
abbrev pub states_of_line : TopologyValue → List (List RouterState) → (number : ℕ) → List RouterState
states_of_line topology states number = map (λ router. state_at number (slice_get states router))
    (below (length topology.routers))

-- a line that the audit has made
abbrev pub line_written : (json : Bool) → TopologyValue → AskedLine → List ℕ
line_written true topology line = line_of (asked_data_of topology line)
line_written false topology line = asked_text_of topology line

-- the line of a want and its LANs, by what each router has for the want; nothing for no line
abbrev pub asked_line_of : (json : Bool) → TopologyValue → (are_excluded : Bool) → List RouterState
    → Option (Want × List ℕ) → List ℕ
asked_line_of json topology are_excluded states None = []
asked_line_of true topology are_excluded states (Some line) =
    line_of (asked_data topology (flow_pairs topology.flows) states line)
asked_line_of false topology are_excluded states (Some line) =
    asked_text topology are_excluded (flow_pairs topology.flows) states line

-- the line with this number
abbrev pub numbered_asked_line : (json : Bool) → TopologyValue → (are_excluded : Bool) → UnansweredWantsValue
    → (number : ℕ) → List ℕ
numbered_asked_line json topology are_excluded asked number =
    asked_line_of json topology are_excluded (states_of_line topology asked.states number)
    (slice_get asked.lines number)

-- the lines after those of the wants: how many more wants there are, and the services
abbrev pub asked_end : (json : Bool) → TopologyValue → UnansweredWantsValue → List ℕ
asked_end true topology asked = asked_more_line asked.further ++ asked_services_line topology asked.services
asked_end false topology asked = asked_more_text asked.further ++ services_text asked.services

-- all lines
abbrev pub asked_lines : (json : Bool) → TopologyValue → (are_excluded : Bool) → UnansweredWantsValue → List ℕ
asked_lines json topology are_excluded asked =
    flat_map (numbered_asked_line json topology are_excluded asked) (below (length asked.lines))
    ++ asked_end json topology asked
