-- The interfaces that a topology has on each LAN (docs/FORMATS.md, "Topology"), and the routers' vifs of
-- their devices.
use Rattle.std.specs.Prelude.{◌==◌, ℕ, Bool, false, List, [], length, map, filter, flat_map, find}
use Rattle.std.specs.Prelude.{Option, Some, None, slice_get, unwrap_or}
use Rattle.std.specs.Str.{bytes_eq}
use Rattle.mc_tables.specs.VifTable.{VifValue}
use Rattle.mc_topology.specs.SectionRows.{InterfaceRow}
use Rattle.mc_topology.specs.Topology.{TopologyValue}
use Rattle.mc_theory.specs.Lists.{below}
use Rattle.mc_forward.specs.ListedTables.{DomainFacts}
use Rattle.mc_search.specs.declared.listed_interface.ListedInterface.{ListedInterface}

-- the topology's interface with this number, from 0
abbrev pub interface_at : TopologyValue → ℕ → InterfaceRow
interface_at topology number =
    unwrap_or (slice_get topology.interfaces number) (record { router = 0; device = []; lan = 0 })

-- the router's interfaces, of those with these numbers
abbrev pub interfaces_of_router : TopologyValue → List ℕ → (router : ℕ) → List ℕ
interfaces_of_router topology numbers router = filter
    (λ number. (interface_at topology number).router == router) numbers

-- the numbers of all interfaces, by router and then in the topology's order
abbrev pub interfaces_by_router : TopologyValue → List ℕ
interfaces_by_router topology =
    flat_map (interfaces_of_router topology (below (length topology.interfaces)))
    (below (length topology.routers))

-- ---- vifs

-- the numbers that a vif can have: 0 to 31 (MAXVIFS in include/uapi/linux/mroute.h)
abbrev pub vif_numbers : List ℕ
vif_numbers = below 32

-- whether there is a vif and it has this device
abbrev pub vif_has_device : List ℕ → Option VifValue → Bool
vif_has_device device None = false
vif_has_device device (Some vif) = bytes_eq vif.device device

-- a router's vif of a device, if it has one
abbrev pub vif_of_device : DomainFacts → (router : ℕ) → List ℕ → Option ℕ
vif_of_device domain router device =
    find (λ vif. vif_has_device device (domain.vifs router vif)) vif_numbers

-- an interface by its router, its number, and the router's vif of its device
abbrev pub listed_interface_of : DomainFacts → ℕ → InterfaceRow → ListedInterface
listed_interface_of domain number row = record {
  router = row.router;
  interface = number;
  vif = vif_of_device domain row.router row.device;
}

-- the interface with this number, with its router and the router's vif of its device
abbrev pub listed_interface_at : DomainFacts → ℕ → ListedInterface
listed_interface_at domain number = listed_interface_of domain number (interface_at domain.topology number)

-- ---- LANs

-- the interfaces on a LAN, by router and then in the topology's order
abbrev pub interfaces_on_lan : DomainFacts → (lan : ℕ) → List ListedInterface
interfaces_on_lan domain lan =
    map (listed_interface_at domain) (filter (λ number. (interface_at domain.topology number).lan == lan)
    (interfaces_by_router domain.topology))

-- the interfaces on each LAN
abbrev pub interfaces_on_lans : DomainFacts → List (List ListedInterface)
interfaces_on_lans domain = map (interfaces_on_lan domain) (below (length domain.topology.lans))
