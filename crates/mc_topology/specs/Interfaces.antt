-- The section `interface` of a topology: the interfaces that are read, or the first fault. Faults
-- have the order of docs/FORMATS.md.
use Rattle.std.specs.Prelude.{ℕ, not, List, [], ◌∷◌, codes}
use Rattle.std.specs.Prelude.{Result, Ok, Err, ok_or, if◌then◌else◌}
use Rattle.toml.specs.Data.{Data, Members}
use Rattle.mc_topology.specs.SectionRows.{RouterRow, InterfaceRow}
use Rattle.mc_topology.specs.declared.fault.Section.TheVariants as section
use Rattle.mc_topology.specs.declared.fault.TopologyFaultKind.{TopologyFaultKind}
use Rattle.mc_topology.specs.declared.fault.TopologyFaultKind.TheVariants.{BadName, UnknownName}
use Rattle.mc_topology.specs.declared.fault.TopologyFaultKind.TheVariants.{RepeatedInterface}
use Rattle.mc_topology.specs.declared.fault.TopologyFault.{TopologyFault}
use Rattle.mc_text.specs.Steps.{◌>>=◌}
use Rattle.mc_topology.specs.Faults.{locate_fault}
use Rattle.mc_topology.specs.EachRow.{each_row}
use Rattle.mc_topology.specs.Document.{known_table, text_at, rows_at}
use Rattle.mc_topology.specs.Names.{is_device, index_of}
use Rattle.mc_topology.specs.Lookup.{router_no_of, has_interface}

-- the keys of an interface's table
abbrev pub interface_keys : List (List ℕ)
interface_keys = codes "router" ∷ codes "device" ∷ codes "lan" ∷ []

-- The interface of the three values. The first has to be the name of a router (else UnknownName),
-- the second one that a device can have (BadName), the third the name of a LAN (UnknownName). Last,
-- no earlier interface may have the router and the device (RepeatedInterface).
unfoldable pub interface_of_values : List (List ℕ) → List RouterRow → List InterfaceRow → List ℕ
    → List ℕ → List ℕ → Result InterfaceRow TopologyFaultKind
interface_of_values lans routers earlier router_name device lan_name = do
  router ← ok_or (router_no_of router_name routers) UnknownName
  if not (is_device device) then Err BadName else do
    lan ← ok_or (index_of lan_name lans) UnknownName
    if has_interface router device earlier then Err RepeatedInterface
        else Ok (record { router = router; device = device; lan = lan })

-- An interface. It has to be a table (else BadKind) with no other keys than these (UnknownKey).
-- Then come the keys `router`, `device` and `lan`, in this order: each has to be there (MissingKey)
-- as a text (BadKind). Then the values are checked, by `interface_of_values`.
unfoldable pub interface_of : List (List ℕ) → List RouterRow → List InterfaceRow → Data
    → Result InterfaceRow TopologyFaultKind
interface_of lans routers earlier value = do
  table ← known_table interface_keys value
  router_name ← text_at (codes "router") table
  device ← text_at (codes "device") table
  lan_name ← text_at (codes "lan") table
  interface_of_values lans routers earlier router_name device lan_name

-- The interfaces: first the section, which has to be a list (else BadKind) of at most 8,192
-- (TooMany) and whose faults have the number 0, and then each interface from the front, whose
-- faults have its number, counted from 1.
unfoldable pub interfaces_in : List (List ℕ) → List RouterRow → Members
    → Result (List InterfaceRow) TopologyFault
interfaces_in lans routers members = do
  rows ← locate_fault section.Interface 0 (rows_at (codes "interface") 8192 members)
  each_row section.Interface (interface_of lans routers) [] rows
