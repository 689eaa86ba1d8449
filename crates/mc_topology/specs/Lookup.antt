-- Look-ups in the rows of a topology, whatever text they were read from: a router by its name, and
-- an interface by its router and device.
use Rattle.std.specs.Prelude.{ℕ, ◌≤◌, ◌==◌, ◌&&◌, List, find, position, length, Bool, Option, option_map}
use Rattle.std.specs.List.{All, list_any}
use Rattle.std.specs.Str.{bytes_eq}
use Rattle.mc_topology.specs.SectionRows.{RouterRow, InterfaceRow}
use Rattle.mc_topology.specs.declared.interfaces.InterfaceKey.{InterfaceKey}

-- whether a router has the name
abbrev pub has_router : List ℕ → List RouterRow → Bool
has_router name routers = list_any (λ row. bytes_eq row.name name) routers

-- the number of the router with the name, counted from 0
abbrev pub router_no_of : List ℕ → List RouterRow → Option ℕ
router_no_of name routers = position (λ row. bytes_eq row.name name) routers

-- whether the interface has this router and this device
abbrev pub is_interface_of : ℕ → List ℕ → InterfaceRow → Bool
is_interface_of router device row = (row.router == router) && bytes_eq row.device device

-- whether an interface has this router and this device
abbrev pub has_interface : ℕ → List ℕ → List InterfaceRow → Bool
has_interface router device interfaces = list_any (is_interface_of router device) interfaces

-- the LAN of the interface with this router and this device
abbrev pub lan_of_interface : ℕ → List ℕ → List InterfaceRow → Option ℕ
lan_of_interface router device interfaces =
    option_map (λ row. row.lan) (find (is_interface_of router device) interfaces)

-- the interface with this router and device, and on this LAN
abbrev pub interface_row : InterfaceKey × ℕ → InterfaceRow
interface_row entry = record { router = entry.0.router; device = entry.0.device.items; lan = entry.1 }

-- no device's name is longer than 15 bytes
abbrev pub HaveShortDevices : List InterfaceRow → Type 0
HaveShortDevices interfaces = All (λ row. length row.device ≤ 15) interfaces
