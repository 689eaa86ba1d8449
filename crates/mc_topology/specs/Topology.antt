-- What a topology is, whatever text it was read from, and the rules that each one keeps
-- (docs/FORMATS.md, section "Topology").
use Rattle.std.specs.Prelude.{◌≡◌, ℕ, ◌<◌, ◌≤◌, IsTrue, List, [], length, refl, Some, slice_get}
use Rattle.std.specs.Prelude.{option_map, unwrap_or}
use Rattle.std.specs.Coded.{Coded, code_by, coded×, coded_ℕ, coded_list}
use Rattle.mc_text.specs.Addr.{IsAddr, IsSource, IsForwardedGroup}
use Rattle.mc_topology.specs.declared.flow.Flow.{Flow}
pub use Rattle.mc_topology.specs.Lookup.{lan_of_interface}
use Rattle.mc_topology.specs.Names.{is_name, is_device}
use Rattle.mc_topology.specs.SectionRows.{RouterRow, InterfaceRow, SourceRow, router_code, interface_code}
use Rattle.mc_topology.specs.SectionRows.{source_code}

-- A topology: the names of its LANs, its routers, its interfaces, its sources and its flows, each
-- in the order of the text, by which they are numbered from 0.
pub record TopologyValue : Type 0 where
  pub lans : List (List ℕ)
  pub routers : List RouterRow
  pub interfaces : List InterfaceRow
  pub sources : List SourceRow
  pub flows : List Flow

-- the name of the LAN with this number; empty if there is none
abbrev pub lan_name : TopologyValue → ℕ → List ℕ
lan_name topology lan = unwrap_or (slice_get topology.lans lan) []

-- the name of the router with this number; empty if there is none
abbrev pub router_name : TopologyValue → ℕ → List ℕ
router_name topology router = unwrap_or (option_map (λ row. row.name) (slice_get topology.routers router))
    []

-- the flow with this number; one of zeros if there is none
abbrev pub flow_at : TopologyValue → ℕ → Flow
flow_at topology flow =
    unwrap_or (slice_get topology.flows flow) (record { source = 0; lan = 0; group = 0; ttl = 0 })

-- the key of a LAN, by which no two agree: its name
abbrev pub lan_key : List ℕ → List ℕ
lan_key name = name

-- the key of a router, by which no two agree: its name
abbrev pub router_key : RouterRow → List ℕ
router_key row = row.name

-- the key of an interface, by which no two agree: its router and its device
abbrev pub interface_key : InterfaceRow → ℕ × List ℕ
interface_key row = (row.router, row.device)

-- the key of a source, by which no two agree: its address
abbrev pub source_key : SourceRow → ℕ
source_key row = row.address

-- the key of a flow, by which no two agree: its source and its group
abbrev pub flow_key : Flow → ℕ × ℕ
flow_key flow = (flow.source, flow.group)

-- no two items of the list have the same key
abbrev pub AreDistinctBy : {X K : Type 0} → (X → K) → List X → Type 0
AreDistinctBy {X} {K} key xs =
    (first second : ℕ) (x y : X) → slice_get xs first ≡ Some x → slice_get xs second ≡ Some y
    → key x ≡ key y → first ≡ second

-- the item is in the list
abbrev pub IsIn : {X : Type 0} → List X → X → Type 0
IsIn xs x = (number : ℕ) × (slice_get xs number ≡ Some x)

-- the topology has an interface with this router and this device, on this LAN
abbrev pub HasInterface : TopologyValue → ℕ → List ℕ → ℕ → Type 0
HasInterface topology router device lan =
    IsIn topology.interfaces (record { router = router; device = device; lan = lan })

-- the rules of an interface: it is a device of one of the routers, on one of the LANs
pub record IsValidInterface (topology : TopologyValue) (row : InterfaceRow) : Type 0 where
  pub router : row.router < length topology.routers
  pub device : IsTrue (is_device row.device)
  pub lan : row.lan < length topology.lans

-- the rules of a source: it has the address of a host that may send, and is on one of the LANs
pub record IsValidSource (lans : List (List ℕ)) (row : SourceRow) : Type 0 where
  pub is_address : IsAddr row.address
  pub may_send : IsSource row.address
  pub lan : row.lan < length lans

-- the rules of a flow: it is from a host that may send, on one of the LANs, to a group that routers
-- forward, with a TTL of 1 to 255
pub record IsValidFlow (lans : List (List ℕ)) (flow : Flow) : Type 0 where
  pub lan : flow.lan < length lans
  pub is_address : IsAddr flow.source
  pub may_send : IsSource flow.source
  pub is_group : IsForwardedGroup flow.group
  pub ttl_from : 1 ≤ flow.ttl
  pub ttl_to : flow.ttl ≤ 255

-- The rules of a topology: at most 1,024 LANs and 256 routers, each with a name that it can have,
-- no two LANs and no two routers with the same name; at most 8,192 interfaces, no two with the same
-- router and device; at most 4,096 sources, no two with the same address; and 1 to 4,096 flows, no
-- two with the same source and group. Each interface, source and flow keeps its own rules.
pub record IsValidTopology (topology : TopologyValue) : Type 0 where
  pub few_lans : length topology.lans ≤ 1024
  pub few_routers : length topology.routers ≤ 256
  pub few_interfaces : length topology.interfaces ≤ 8192
  pub few_sources : length topology.sources ≤ 4096
  pub some_flow : 0 < length topology.flows
  pub few_flows : length topology.flows ≤ 4096
  pub lan_names : AreDistinctBy lan_key topology.lans
  pub router_names : AreDistinctBy router_key topology.routers
  pub distinct_interfaces : AreDistinctBy interface_key topology.interfaces
  pub distinct_sources : AreDistinctBy source_key topology.sources
  pub distinct_flows : AreDistinctBy flow_key topology.flows
  pub valid_lan_names : (number : ℕ) (name : List ℕ) → slice_get topology.lans number ≡ Some name
      → IsTrue (is_name name)
  pub valid_router_names : (number : ℕ) (row : RouterRow) → slice_get topology.routers number ≡ Some row
      → IsTrue (is_name row.name)
  pub valid_interfaces : (number : ℕ) (interface_row : InterfaceRow)
      → slice_get topology.interfaces number ≡ Some interface_row
      → IsValidInterface topology interface_row
  pub valid_sources : (number : ℕ) (source_row : SourceRow)
      → slice_get topology.sources number ≡ Some source_row
      → IsValidSource topology.lans source_row
  pub valid_flows : (number : ℕ) (flow : Flow) → slice_get topology.flows number ≡ Some flow
      → IsValidFlow topology.lans flow

-- a flow is stored as its fields
abbrev pub flow_code : Coded Flow
flow_code =
    code_by (ℕ × (ℕ × (ℕ × ℕ))) (coded× coded_ℕ (coded× coded_ℕ (coded× coded_ℕ coded_ℕ)))
    (λ flow. (flow.source, (flow.lan, (flow.group, flow.ttl))))
    (λ stored. record { source = stored.0; lan = stored.1.0; group = stored.1.1.0; ttl = stored.1.1.1 })
    (λ _. refl)

-- a topology is stored as its fields
abbrev pub topology_code : Coded TopologyValue
topology_code =
    code_by (List (List ℕ) × (List RouterRow × (List InterfaceRow × (List SourceRow × List Flow))))
    (coded× (coded_list (coded_list coded_ℕ)) (coded× (coded_list router_code)
    (coded× (coded_list interface_code) (coded× (coded_list source_code) (coded_list flow_code)))))
    (λ topology. (
      topology.lans,
      (
        topology.routers,
        (topology.interfaces, (topology.sources, topology.flows)),
      ),
    ))
    (λ stored. record {
      lans = stored.0;
      routers = stored.1.0;
      interfaces = stored.1.1.0;
      sources = stored.1.1.1.0;
      flows = stored.1.1.1.1;
    })
    (λ _. refl)
