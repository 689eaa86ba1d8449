-- What is behind a stray, in JSON: the member `behind` of a flow's line (docs/FORMATS.md, "What
-- `audit --json` writes").
use Rattle.std.specs.Prelude.{ℕ, List, [], ◌∷◌, map, Option, Some, None, codes}
use Rattle.mc_tables.specs.Summary.{SummaryValue}
use Rattle.mc_topology.specs.Topology.{TopologyValue}
use Rattle.mc_theory.specs.Nets.{Interface}
use Rattle.mc_forward.specs.ListedTables.{DomainFacts, facts}
use Rattle.mc_explain.specs.declared.causes.behind.Behind.{Behind}
use Rattle.mc_lines.specs.declared.context.LineContext.{LineContext}
use Rattle.serde_json.specs.Data.{Data, null}
use Rattle.mc_json.specs.EndData.{routers_data}
use Rattle.mc_json.specs.FlowData.{optional_finding_data}
use Rattle.mc_json_wrong.specs.WrongData.{shown_from_data}
use Rattle.mc_json.specs.RowData.{count_data, lan_data, list_data, object_data, router_data}
use Rattle.mc_json_wrong.specs.WhyData.{causes_data}

-- a vif of a router by which copies leave the known domain
abbrev pub stray_data : TopologyValue → Interface → Data
stray_data topology interface = object_data ((codes "router", router_data topology interface.0)
    ∷ (codes "vif", count_data interface.1) ∷ [])

-- what is behind a stray, with the values of its causes
abbrev pub found_behind_data : TopologyValue → Behind → (why : List Data) → Data
found_behind_data topology behind why = object_data (
    (codes "finding", optional_finding_data topology behind.finding)
    ∷ (codes "missed", list_data (map (lan_data topology) behind.missed.items))
    ∷ (codes "open", routers_data topology behind.open_routers.items)
    ∷ (codes "shown_from", shown_from_data behind.shown_from)
    ∷ (codes "strays", list_data (map (stray_data topology) behind.strays.items))
    ∷ (codes "why", list_data why) ∷ [])

-- what is behind a stray of the flow with this number, by the summaries of the routers' caches; null where
-- the finding is no stray
abbrev pub behind_data : DomainFacts → List SummaryValue → (flow : ℕ) → Option Behind → Data
behind_data domain summary flow None = null
behind_data domain summary flow (Some behind) =
    found_behind_data domain.topology behind (causes_data domain summary flow behind.causes.items)

-- what is behind a stray, in the context in which the code writes lines; null where the finding is no stray
abbrev pub behind_data_in : LineContext → Option Behind → Data
behind_data_in context behind = behind_data (facts context.view.now.domain) context.summary.now
    context.view.now.flow behind
