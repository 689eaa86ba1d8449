-- A domain: its topology, the kernel tables of its routers, and what its hosts want; and the net of
-- one of its flows, which is all that matters to the copies of that flow's packets.
use Rattle.std.specs.Prelude.{◌≡◌, ℕ, Bool, true, false, ◌||◌, List, [], map, length, Option, Some}
use Rattle.std.specs.Prelude.{None, slice_get, slice_index_or, option_map, option_and_then}
use Rattle.std.specs.Prelude.{unwrap_or, if◌then◌else◌}
use Rattle.std.specs.List.{AllByRecursion}
use Rattle.std.specs.Ordering.{nat_cmp}
use Rattle.std.specs.Str.{bytes_eq}
use Rattle.std.specs.FinMap as finite
use Rattle.std.specs.FinSet as set
use Rattle.mc_tables.specs.declared.cache.entry.Oif.{Oif}
use Rattle.mc_tables.specs.CacheTable.{EntryValue, CacheValue, IsValidEntry, to_oif}
use Rattle.mc_tables.specs.VifTable.{VifValue, no_device}
use Rattle.mc_tables.specs.VifLookups.{IsValidVifTable}
use Rattle.mc_topology.specs.declared.flow.Flow.{Flow}
use Rattle.mc_topology.specs.Topology.{TopologyValue, IsValidTopology, lan_of_interface}
use Rattle.mc_theory.specs.Nets.{Net, Row}
use Rattle.mc_theory.specs.Nets.Row.{Exact, Open, NoRow}

-- a router's vifs by their indexes
abbrev pub VifsValue : Type 0
VifsValue = finite.FinMap nat_cmp VifValue

-- the two tables of a router's kernel: its vifs, and its forwarding cache
pub record TablesValue : Type 0 where
  pub vifs : VifsValue
  pub cache : CacheValue

-- A domain, by its facts: the topology, each router's vifs, each router's row for each flow, and
-- for each LAN whether it wants each flow. Routers, LANs and flows are in the order of the
-- topology, and numbered from 0.
pub record DomainValue : Type 0 where
  pub topology : TopologyValue
  pub vifs : List VifsValue
  pub rows : List (List Row)
  pub wants : List (List Bool)

-- ---- on which LAN a vif is placed

-- The LAN on which a router's vif is placed. A tunnel, a register vif and a vif without a device
-- are placed on none. Any other is placed on the LAN on which the topology has the router's
-- interface with the vif's device, if it has one.
abbrev pub lan_of_vif : TopologyValue → ℕ → VifValue → Option ℕ
lan_of_vif topology router vif =
    if (vif.tunnel || vif.register) || bytes_eq vif.device no_device then None
    else lan_of_interface router vif.device topology.interfaces

-- a router's vif of this index, if it has one
abbrev pub vif_of : List VifsValue → ℕ → ℕ → Option VifValue
vif_of vifs router vif = option_and_then (λ own. finite.get own vif) (slice_get vifs router)

-- the LAN on which a router's vif is placed, by these vifs of the routers
abbrev pub placed_in : TopologyValue → List VifsValue → ℕ → ℕ → Option ℕ
placed_in topology vifs router vif =
    option_and_then (lan_of_vif topology router) (vif_of vifs router vif)

-- the LAN on which a router's vif is placed in the domain
abbrev pub placed_of : DomainValue → ℕ → ℕ → Option ℕ
placed_of domain router vif = placed_in domain.topology domain.vifs router vif

-- ---- which row a router has for a flow

-- an entry's outgoing vifs, each with its threshold
abbrev pub oif_pairs : List Oif → List (ℕ × ℕ)
oif_pairs oifs = map (λ oif. (oif.vif, oif.threshold)) oifs

-- A router's row for a flow: its (S,G) entry if it has one, since the kernel looks for that first
-- (`ip_mr_input` in net/ipv4/ipmr.c). `wild` says whether there is a resolved (*,G) entry of the
-- group, or a resolved (*,*) one.
abbrev pub row_by_entry : (wild : Bool) → Option EntryValue → Row
row_by_entry wild (Some entry) = Exact entry.iif (oif_pairs entry.oifs)
row_by_entry true None = Open
row_by_entry false None = NoRow

-- the row for a flow that a router's cache has
abbrev pub row_in_cache : CacheValue → Flow → Row
row_in_cache cache flow =
    row_by_entry (set.contains cache.wildcards flow.group || set.contains cache.wildcards 0)
    (finite.get cache.entries (flow.source, flow.group))

-- a router's row for a flow, by their numbers
abbrev pub row_of : DomainValue → (flow router : ℕ) → Row
row_of domain flow router = slice_index_or (slice_index_or domain.rows router []) flow NoRow

-- ---- who wants a flow, and the flow's net

-- whether a LAN wants a flow, by their numbers
abbrev pub wants_of : DomainValue → (flow lan : ℕ) → Bool
wants_of domain flow lan = slice_index_or (slice_index_or domain.wants lan []) flow false

-- the LAN of a flow's source, by number
abbrev pub source_of : DomainValue → (flow : ℕ) → ℕ
source_of domain flow = unwrap_or (option_map (λ listed. listed.lan)
    (slice_get domain.topology.flows flow)) 0

-- the least TTL with which a flow's source sends
abbrev pub ttl_of : DomainValue → (flow : ℕ) → ℕ
ttl_of domain flow = unwrap_or (option_map (λ listed. listed.ttl) (slice_get domain.topology.flows flow)) 0

-- the net of a flow, by its number: what the routers do with its packets
abbrev pub net_of : DomainValue → (flow : ℕ) → Net
net_of domain flow = record {
  routers = length domain.topology.routers;
  placed = placed_of domain;
  row = row_of domain flow;
  wants = wants_of domain flow;
  source = source_of domain flow;
  ttl = ttl_of domain flow;
}

-- ---- what holds of every domain

-- there are vifs for each router, as a kernel has them
pub record AreVifs (topology : TopologyValue) (vifs : List VifsValue) : Type 0 where
  pub routers : length vifs ≡ length topology.routers
  pub valid : (router : ℕ) (own : VifsValue) → slice_get vifs router ≡ Some own → IsValidVifTable own

-- the rules of a row: those of its (S,G) entry, if it has one
abbrev pub IsValidRow : Row → Type 0
IsValidRow (Exact incoming pairs) = IsValidEntry (record { iif = incoming; oifs = map to_oif pairs })
IsValidRow Open = Unit {0}
IsValidRow NoRow = Unit {0}

-- there is a row for each router and each flow, as a kernel has them
pub record AreRows (topology : TopologyValue) (rows : List (List Row)) : Type 0 where
  pub routers : length rows ≡ length topology.routers
  pub flows : (router : ℕ) (own : List Row) → slice_get rows router ≡ Some own
      → length own ≡ length topology.flows
  pub valid : (router : ℕ) (own : List Row) → slice_get rows router ≡ Some own
      → AllByRecursion IsValidRow own

-- The rules of every domain: its topology keeps its own, there are vifs and rows for each router,
-- and an answer for each LAN and each flow.
pub record IsDomain (domain : DomainValue) : Type 0 where
  pub topology : IsValidTopology domain.topology
  pub vifs : AreVifs domain.topology domain.vifs
  pub rows : AreRows domain.topology domain.rows
  pub lans : length domain.wants ≡ length domain.topology.lans
  pub flows : (lan : ℕ) (wanted : List Bool) → slice_get domain.wants lan ≡ Some wanted
      → length wanted ≡ length domain.topology.flows
