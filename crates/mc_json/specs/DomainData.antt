-- The first line in JSON: the domain that was read, and the options of the command line (docs/FORMATS.md,
-- "What `audit --json` writes").
use Rattle.std.specs.Prelude.{ℕ, List, [], ◌∷◌, ◌++◌, length, map, flat_map, Option, Some, None, codes}
use Rattle.std.specs.Prelude.{option_map, slice_get, unwrap_or}
use Rattle.mc_text.specs.Addr.{dotted}
use Rattle.mc_text.specs.declared.text.addr.Order.{Order}
use Rattle.mc_text.specs.declared.text.addr.Order.TheVariants.{Little, Big}
use Rattle.mc_tables.specs.VifTable.{VifValue}
use Rattle.mc_topology.specs.SectionRows.{InterfaceRow, SourceRow}
use Rattle.mc_topology.specs.Topology.{TopologyValue}
use Rattle.mc_theory.specs.Lists.{below}
use Rattle.mc_forward.specs.ListedTables.{DomainFacts}
use Rattle.mc_shown.specs.RowText.{device_name_text}
use Rattle.mc_search.specs.TopologyLans.{vif_of_device}
use Rattle.serde_json.specs.Data.{Data, null, string}
use Rattle.mc_json.specs.RowData.{count_data, list_data, object_data}
use Rattle.mc_json.specs.RowData.{lan_data, router_data}

-- ---- interfaces

-- an interface: its router, its device, its LAN and its vif
abbrev pub interface_data : TopologyValue → (router : ℕ) → (device : List ℕ) → (lan vif : Data) → Data
interface_data topology router device lan vif = object_data (
    (codes "device", string (device_name_text device))
    ∷ (codes "lan", lan)
    ∷ (codes "router", router_data topology router)
    ∷ (codes "vif", vif) ∷ [])

-- a LAN by its name, or null for none
abbrev pub lan_or_null : TopologyValue → Option ℕ → Data
lan_or_null topology None = null
lan_or_null topology (Some lan) = lan_data topology lan

-- a vif with the LAN that it is placed on, which is the same for each flow; nothing if the vif table has no
-- line for it
abbrev pub vif_data : DomainFacts → (router vif : ℕ) → Option VifValue → List Data
vif_data domain router vif None = []
vif_data domain router vif (Some v) =
    interface_data domain.topology router v.device
    (lan_or_null domain.topology ((domain.nets 0).placed router vif))
    (count_data vif) ∷ []

-- a router's vifs, by number
abbrev pub vifs_data : DomainFacts → (router : ℕ) → List Data
vifs_data domain router = flat_map (λ vif. vif_data domain router vif (domain.vifs router vif)) (below 32)

-- an interface of the topology, if its router has no vif of its device
abbrev pub unmatched_data_of : Option ℕ → TopologyValue → InterfaceRow → List Data
unmatched_data_of None topology row = interface_data topology row.router row.device
    (lan_data topology row.lan) null ∷ []
unmatched_data_of (Some vif) topology row = []

-- an interface of the topology, if by the vif tables its router has no vif of its device
abbrev pub unmatched_data : DomainFacts → InterfaceRow → List Data
unmatched_data domain row = unmatched_data_of (vif_of_device domain row.router row.device) domain.topology
    row

-- all vifs by router and number, and then the interfaces without a vif in the topology's order
abbrev pub interfaces_data : DomainFacts → List Data
interfaces_data domain =
    flat_map (vifs_data domain) (below (length domain.topology.routers))
    ++ flat_map (unmatched_data domain) domain.topology.interfaces

-- ---- routers

-- the order in which a router's table shows the bytes of addresses; `little` for a number that is no router's
abbrev pub router_order : TopologyValue → (router : ℕ) → Order
router_order topology router = unwrap_or (option_map (λ row. row.order) (slice_get topology.routers router))
    Little

-- the word for an order
abbrev pub order_word : Order → List ℕ
order_word Little = codes "little"
order_word Big = codes "big"

-- a router with its order
abbrev pub router_with_order : TopologyValue → (router : ℕ) → Data
router_with_order topology router = object_data (
    (codes "name", router_data topology router)
    ∷ (codes "order", string (order_word (router_order topology router))) ∷ [])

-- ---- the line

-- a source of the topology with its LAN
abbrev pub source_data : TopologyValue → SourceRow → Data
source_data topology row = object_data (
    (codes "address", string (dotted row.address)) ∷ (codes "lan", lan_data topology row.lan) ∷ [])

-- the domain: its interfaces, LANs, routers and sources
abbrev pub parts_data : DomainFacts → Data
parts_data domain = object_data (
    (codes "interfaces", list_data (interfaces_data domain))
    ∷ (codes "lans", list_data (map (lan_data domain.topology) (below (length domain.topology.lans))))
    ∷ (
      codes "routers",
      list_data (map (router_with_order domain.topology)
          (below (length domain.topology.routers))),
    )
    ∷ (codes "sources", list_data (map (source_data domain.topology) domain.topology.sources)) ∷ [])

-- the line: the domain, the number of JSON's format, and the options as words of the command line, in order
abbrev pub domain_data : DomainFacts → List (List ℕ) → Data
domain_data domain words = object_data (
    (codes "domain", parts_data domain)
    ∷ (codes "format", count_data 2)
    ∷ (codes "words", list_data (map string words)) ∷ [])
