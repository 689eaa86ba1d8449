-- What hosts ask for and no flow answers, in JSON: the lines `asked`, `asked_more` and `asked_services`
-- (docs/FORMATS.md, "What `audit --json` writes").
use Rattle.std.specs.Prelude.{ℕ, ◌==◌, List, [], ◌∷◌, codes, if◌then◌else◌, map, unwrap_or}
use Rattle.mc_text.specs.Addr.{dotted}
use Rattle.mc_topology.specs.Topology.{TopologyValue}
use Rattle.mc_asked.specs.declared.forwarding.RouterState.{RouterState}
use Rattle.mc_asked.specs.ListWants.{Want, any_source}
use Rattle.mc_asked.specs.Services.{service_name}
use Rattle.mc_shown.specs.AskedText.{listed_sources}
use Rattle.mc_shown.specs.RoutersForWant.{RoutersForWant, routers_by_state, routers_value}
use Rattle.mc_shown.specs.declared.asked.asked_text.AskedLine.{AskedLine}
use Rattle.serde_json.specs.Data.{Data, string, null}
use Rattle.mc_json.specs.EndData.{list_line, routers_data, single_member}
use Rattle.mc_json.specs.RowData.{count_data, lan_data, line_of, list_data, object_data}

-- a list of LANs by their names
abbrev pub lans_data : TopologyValue → List ℕ → Data
lans_data topology lans = list_data (map (lan_data topology) lans)

-- an address as a dotted text
abbrev pub address_data : ℕ → Data
address_data address = string (dotted address)

-- the source of a want, or null for any
abbrev pub want_source_data : ℕ → Data
want_source_data source = if source == any_source then null else address_data source

-- a want and its LANs, the listed sources of its group, and the routers by what they have for it
abbrev pub asked_object : TopologyValue → Want × List ℕ → (listed : List ℕ) → RoutersForWant → Data
asked_object topology line listed routers = single_member (codes "asked") (object_data (
    (codes "group", address_data line.0.0)
    ∷ (codes "lans", lans_data topology line.1)
    ∷ (codes "listed", list_data (map address_data listed))
    ∷ (codes "none", routers_data topology routers.none_out)
    ∷ (codes "routers", routers_data topology routers.forwards)
    ∷ (codes "source", want_source_data line.0.1)
    ∷ (codes "star", routers_data topology routers.every_source) ∷ []))

-- the object of a line that the audit has made
abbrev pub asked_data_of : TopologyValue → AskedLine → Data
asked_data_of topology line =
    asked_object topology (line.want.now, line.lans.now) line.listed.now (routers_value line.routers.now)

-- the object of a want and its LANs, by the listed flows and by what each router has for the want
abbrev pub asked_data : TopologyValue → (flows : List (ℕ × ℕ)) → List RouterState → Want × List ℕ → Data
asked_data topology flows states line =
    asked_object topology line (listed_sources flows line.0.0) (routers_by_state states)

-- how many more wants of LANs there are
abbrev pub asked_more_data : ℕ → Data
asked_more_data more = single_member (codes "asked_more") (single_member (codes "wants") (count_data more))

-- the line that counts the further wants; nothing if there are none
abbrev pub asked_more_line : ℕ → List ℕ
asked_more_line more = if more == 0 then [] else line_of (asked_more_data more)

-- a group of a service, its name, and the LANs that ask for it
abbrev pub service_object : TopologyValue → (group : ℕ) → (lans : List ℕ) → Data
service_object topology group lans = object_data (
    (codes "group", address_data group)
    ∷ (codes "lans", lans_data topology lans)
    ∷ (codes "name", string (unwrap_or (service_name group) [])) ∷ [])

-- the object of a service, given as a want of its group with the LANs that ask for it
abbrev pub service_data : TopologyValue → Want × List ℕ → Data
service_data topology line = service_object topology line.0.0 line.1

-- the line of all services; nothing if there are none
abbrev pub asked_services_line : TopologyValue → List (Want × List ℕ) → List ℕ
asked_services_line topology lines = list_line (codes "asked_services") (map (service_data topology) lines)
