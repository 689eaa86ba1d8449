-- The section `router` of a topology: the routers that are read, or the first fault. Faults have
-- the order of docs/FORMATS.md.
use Rattle.std.specs.Prelude.{ℕ, not, List, [], ◌∷◌, codes, Option, Some, None}
use Rattle.std.specs.Prelude.{Result, Ok, Err, if◌then◌else◌}
use Rattle.std.specs.Str.{bytes_eq}
use Rattle.toml.specs.Data.{Data, Members}
use Rattle.mc_text.specs.declared.text.addr.Order.{Order}
use Rattle.mc_text.specs.declared.text.addr.Order.TheVariants.{Little, Big}
use Rattle.mc_topology.specs.SectionRows.{RouterRow}
use Rattle.mc_topology.specs.declared.fault.Section.TheVariants as section
use Rattle.mc_topology.specs.declared.fault.TopologyFaultKind.{TopologyFaultKind}
use Rattle.mc_topology.specs.declared.fault.TopologyFaultKind.TheVariants.{BadKind, BadName}
use Rattle.mc_topology.specs.declared.fault.TopologyFaultKind.TheVariants.{RepeatedName}
use Rattle.mc_topology.specs.declared.fault.TopologyFault.{TopologyFault}
use Rattle.mc_text.specs.Steps.{◌>>=◌}
use Rattle.mc_topology.specs.Faults.{locate_fault}
use Rattle.mc_topology.specs.EachRow.{each_row}
use Rattle.mc_topology.specs.Document.{known_table, text_at, optional_text_at, rows_at}
use Rattle.mc_topology.specs.Lookup.{has_router}
use Rattle.mc_topology.specs.Names.{is_name}

-- the keys of a router's table
abbrev pub router_keys : List (List ℕ)
router_keys = codes "name" ∷ codes "order" ∷ []

-- the byte order of a text, which has to be `little` or `big` (else BadKind); without a text it is
-- little-endian
unfoldable pub order_of : Option (List ℕ) → Result Order TopologyFaultKind
order_of None = Ok Little
order_of (Some text) =
    if bytes_eq text (codes "little") then Ok Little
    else if bytes_eq text (codes "big") then Ok Big
    else Err BadKind

-- A router. It has to be a table (else BadKind) with no other keys than these (UnknownKey). Then
-- come the keys: `name` has to be there (MissingKey) as a text (BadKind), and `order`, if it is
-- there, has to be a text (BadKind). Then come the values: the name has to be one that a router can
-- have (BadName), and the order one of the two (BadKind). Last, no earlier router may have the name
-- (RepeatedName).
unfoldable pub router_of : List RouterRow → Data → Result RouterRow TopologyFaultKind
router_of earlier value = do
  table ← known_table router_keys value
  name ← text_at (codes "name") table
  order_text ← optional_text_at (codes "order") table
  if not (is_name name) then Err BadName else do
    order ← order_of order_text
    if has_router name earlier then Err RepeatedName else Ok (record { name = name; order = order })

-- The routers: first the section, which has to be a list (else BadKind) of at most 256 (TooMany)
-- and whose faults have the number 0, and then each router from the front, whose faults have its
-- number, counted from 1.
unfoldable pub routers_in : Members → Result (List RouterRow) TopologyFault
routers_in members = do
  rows ← locate_fault section.Router 0 (rows_at (codes "router") 256 members)
  each_row section.Router router_of [] rows
