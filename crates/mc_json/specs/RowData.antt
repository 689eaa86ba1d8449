-- JSON values and lines, and in JSON the devices and entries of routers (docs/FORMATS.md, "What
-- `audit --json` writes"), with the names of the topology and of the vif tables.
use Rattle.std.specs.Prelude.{ℕ, List, [], ◌∷◌, ◌++◌, map, Option, Some, None, codes}
use Rattle.mc_tables.specs.CacheTable.{EntryValue}
use Rattle.mc_tables.specs.Summary.{SummaryValue}
use Rattle.mc_tables.specs.VifTable.{VifValue}
use Rattle.mc_topology.specs.Topology.{TopologyValue, flow_at, lan_name, router_name}
use Rattle.mc_topology.specs.declared.flow.Flow.{Flow}
use Rattle.mc_theory.specs.Nets.{Row}
use Rattle.mc_forward.specs.Domains.{oif_pairs}
use Rattle.mc_forward.specs.ListedTables.{DomainFacts}
use Rattle.mc_search.specs.SearchLine.{every_source_of}
use Rattle.mc_shown.specs.RowText.{address_text, device_name_text, of_entry_or}
use Rattle.serde_json.specs.Data.{Data, Members, null, number, unsigned, string, array, object}
use Rattle.serde_json.specs.Data.{member, no_members}
use Rattle.serde_json.specs.View.{items_of}
use Rattle.serde_json.specs.Written.{compact_text}

-- ---- values

-- a number from 0 on
abbrev pub count_data : ℕ → Data
count_data count = number (unsigned count)

-- a list of values
abbrev pub list_data : List Data → Data
list_data items = array (items_of items)

-- the members of an object, which are given in ascending order of their keys
abbrev pub members : List (List ℕ × Data) → Members
members [] = no_members
members (m ∷ ms) = member m.0 m.1 (members ms)

-- the object with these members
abbrev pub object_data : List (List ℕ × Data) → Data
object_data ms = object (members ms)

-- a value as a line of text
abbrev pub line_of : Data → List ℕ
line_of value = compact_text value ++ codes "\n"

-- ---- names

-- a LAN by its name
abbrev pub lan_data : TopologyValue → (lan : ℕ) → Data
lan_data topology lan = string (lan_name topology lan)

-- a router by its name
abbrev pub router_data : TopologyValue → (router : ℕ) → Data
router_data topology router = string (router_name topology router)

-- ---- devices

-- the device of a vif; null if the vif table has no line for it
abbrev pub device_data_of : Option VifValue → Data
device_data_of None = null
device_data_of (Some vif) = string (device_name_text vif.device)

-- the device of a router's vif
abbrev pub device_data : DomainFacts → (router vif : ℕ) → Data
device_data domain router vif = device_data_of (domain.vifs router vif)

-- ---- rows

-- an outgoing vif of an entry, with its threshold
abbrev pub oif_data : DomainFacts → (router : ℕ) → ℕ × ℕ → Data
oif_data domain router pair = object_data (
    (codes "device", device_data domain router pair.0)
    ∷ (codes "threshold", count_data pair.1)
    ∷ (codes "vif", count_data pair.0) ∷ [])

-- the incoming vif of an entry
abbrev pub incoming_data : DomainFacts → (router incoming : ℕ) → Data
incoming_data domain router incoming = object_data (
    (codes "device", device_data domain router incoming)
    ∷ (codes "vif", count_data incoming) ∷ [])

-- an entry; its source or group is `*`, every one, for 0.0.0.0
abbrev pub entry_data : DomainFacts → (router source group incoming : ℕ) → List (ℕ × ℕ) → Data
entry_data domain router source group incoming pairs = object_data (
    (codes "from", incoming_data domain router incoming)
    ∷ (codes "group", string (address_text group))
    ∷ (codes "router", string (router_name domain.topology router))
    ∷ (codes "source", string (address_text source))
    ∷ (codes "to", list_data (map (oif_data domain router) pairs)) ∷ [])

-- the (S,G) entry that is a router's row for a flow; null for another row
abbrev pub row_data : DomainFacts → Flow → (router : ℕ) → Row → Data
row_data domain flow router row = of_entry_or null (entry_data domain router flow.source flow.group) row

-- the (S,G) entry that is a router's row for the flow with this number; null for another row
abbrev pub flow_row_data : DomainFacts → (flow router : ℕ) → Data
flow_row_data domain flow router = row_data domain (flow_at domain.topology flow) router
    ((domain.nets flow).row router)

-- an entry that a router has for every source; null if there is none
abbrev pub every_source_row_data : DomainFacts → (router : ℕ) → Option (ℕ × EntryValue) → Data
every_source_row_data domain router None = null
every_source_row_data domain router (Some row) =
    entry_data domain router 0 row.0 row.1.iif (oif_pairs row.1.oifs)

-- the entry that a router has for every source of this group, by the summaries of all routers' caches; null
-- if it has none
abbrev pub every_source_data : DomainFacts → List SummaryValue → (group router : ℕ) → Data
every_source_data domain summary group router =
    every_source_row_data domain router (every_source_of summary group router)

-- ---- the incoming vif of a row

-- the device of a row's incoming vif; null for a row without one
abbrev pub incoming_device : DomainFacts → (router : ℕ) → Row → Data
incoming_device domain router row = of_entry_or null (λ incoming pairs. device_data domain router incoming)
    row

-- the number of a row's incoming vif; null for a row without one
abbrev pub incoming_vif : Row → Data
incoming_vif row = of_entry_or null (λ incoming pairs. count_data incoming) row
