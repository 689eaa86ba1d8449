-- Which topology a text denotes: the rules of docs/FORMATS.md, section "Topology", over the table
-- that TOML's reader gives.
use Rattle.std.specs.Prelude.{◌≡◌, ℕ, pos, ◌<◌, ◌≤◌, List, [], ◌∷◌, length, codes, IsTrue, IsUtf8}
use Rattle.std.specs.Prelude.{Option, Some, None}
use Rattle.mc_text.specs.Lines.{max_text}
use Rattle.toml.specs.Data.{Data, string, integer, array, table, Items, Members, get_member}
use Rattle.toml.specs.Parse.{parse_document}
use Rattle.mc_text.specs.Addr.{IsAddr, IsSource, IsForwardedGroup, dotted}
use Rattle.mc_text.specs.declared.text.addr.Order.{Order}
use Rattle.mc_text.specs.declared.text.addr.Order.TheVariants.{Little, Big}
use Rattle.mc_topology.specs.declared.flow.Flow.{Flow}
use Rattle.mc_topology.specs.SectionRows.{RouterRow, InterfaceRow, SourceRow}
use Rattle.mc_topology.specs.Bounds.{is_bounded}
use Rattle.mc_topology.specs.Document.{has_only, rows_in}
use Rattle.mc_topology.specs.Names.{is_name, is_device, index_of}
use Rattle.mc_topology.specs.Routers.{router_keys}
use Rattle.mc_topology.specs.Lookup.{router_no_of}
use Rattle.mc_topology.specs.Interfaces.{interface_keys}
use Rattle.mc_topology.specs.Sources.{source_keys, lan_of_source}
use Rattle.mc_topology.specs.Flows.{flow_keys}
use Rattle.mc_topology.specs.Reading.{top_keys}
use Rattle.mc_topology.specs.Topology.{TopologyValue, AreDistinctBy, lan_key, router_key}
use Rattle.mc_topology.specs.Topology.{interface_key, source_key, flow_key}

-- ---- tables

-- under the key there is this text
abbrev pub HasText : List ℕ → Members → List ℕ → Type 0
HasText key members text = get_member key members ≡ Some (string text)

-- under the key there is this whole number
abbrev pub HasNumber : List ℕ → Members → ℕ → Type 0
HasNumber key members number = get_member key members ≡ Some (integer (pos number))

-- a value is a list of these rows; where there is no value, there are no rows
abbrev pub AreRows : Option Data → List Data → Type 0
AreRows None rows = rows ≡ []
AreRows (Some value) rows = (items : Items) × (value ≡ array items) × (rows ≡ rows_in items)

-- the value is a table with these members, and with no other keys than the known ones
pub record IsTable (known : List (List ℕ)) (value : Data) (ms : Members) : Type 0 where
  pub members : value ≡ table ms
  pub keys : IsTrue (has_only known ms)

-- each row denotes its value, in order
abbrev pub EachDenotes : {X : Type 0} → (Data → X → Type 0) → List Data → List X → Type 0
EachDenotes Denotation [] [] = Unit {0}
EachDenotes Denotation [] (x ∷ xs) = ⊥
EachDenotes Denotation (value ∷ values) [] = ⊥
EachDenotes Denotation (value ∷ values) (x ∷ xs) = Denotation value x × EachDenotes Denotation values xs

-- ---- the rows

-- a value denotes a LAN's name: a text that can be one
pub record DenotesLan (value : Data) (name : List ℕ) : Type 0 where
  pub text : value ≡ string name
  pub fits : IsTrue (is_name name)

-- the text of a byte order
abbrev pub order_text : Order → List ℕ
order_text Little = codes "little"
order_text Big = codes "big"

-- the text of a byte order denotes it; where there is none, it is little-endian
abbrev pub DenotesOrder : Option Data → Order → Type 0
DenotesOrder None order = order ≡ Little
DenotesOrder (Some value) order = value ≡ string (order_text order)

-- a value denotes a router: a table of its name, and maybe of its byte order
pub record DenotesRouter (value : Data) (row : RouterRow) : Type 0 where
  pub members : Members
  pub is_table : IsTable router_keys value members
  pub name : HasText (codes "name") members row.name
  pub order : DenotesOrder (get_member (codes "order") members) row.order
  pub fits : IsTrue (is_name row.name)

-- a value denotes an interface: a table of a router's name, a device, and a LAN's name
pub record DenotesInterface (lans : List (List ℕ)) (routers : List RouterRow) (value : Data)
    (row : InterfaceRow) : Type 0 where
  pub members : Members
  pub router_name : List ℕ
  pub lan_name : List ℕ
  pub is_table : IsTable interface_keys value members
  pub router_text : HasText (codes "router") members router_name
  pub device : HasText (codes "device") members row.device
  pub lan_text : HasText (codes "lan") members lan_name
  pub router : router_no_of router_name routers ≡ Some row.router
  pub fits : IsTrue (is_device row.device)
  pub lan : index_of lan_name lans ≡ Some row.lan

-- a value denotes a source: a table of the address of a host that may send, and of a LAN's name
pub record DenotesSource (lans : List (List ℕ)) (value : Data) (row : SourceRow) : Type 0 where
  pub members : Members
  pub lan_name : List ℕ
  pub is_table : IsTable source_keys value members
  pub address : HasText (codes "address") members (dotted row.address)
  pub lan_text : HasText (codes "lan") members lan_name
  pub is_address : IsAddr row.address
  pub may_send : IsSource row.address
  pub lan : index_of lan_name lans ≡ Some row.lan

-- a value denotes a flow: a table of the address of one of the sources, of the address of a group
-- that routers forward, and of a TTL of 1 to 255
pub record DenotesFlow (sources : List SourceRow) (value : Data) (flow : Flow) : Type 0 where
  pub members : Members
  pub is_table : IsTable flow_keys value members
  pub source : HasText (codes "source") members (dotted flow.source)
  pub group : HasText (codes "group") members (dotted flow.group)
  pub ttl : HasNumber (codes "ttl") members flow.ttl
  pub is_address : IsAddr flow.source
  pub may_send : IsSource flow.source
  pub lan : lan_of_source flow.source sources ≡ Some flow.lan
  pub is_group : IsForwardedGroup flow.group
  pub ttl_from : 1 ≤ flow.ttl
  pub ttl_to : flow.ttl ≤ 255

-- ---- the text

-- the key `lans`, which has to be there, has a list of at most 1,024 names, no two of them the same
pub record DenotesLans (members : Members) (lans : List (List ℕ)) : Type 0 where
  pub items : Items
  pub list : get_member (codes "lans") members ≡ Some (array items)
  pub few : length (rows_in items) ≤ 1024
  pub each_row : EachDenotes DenotesLan (rows_in items) lans
  pub distinct : AreDistinctBy lan_key lans

-- the key `name` has a list of at most `most` rows, no two with the same key; it may be missing,
-- and then there are no rows
pub record DenotesSection {X K : Type 0} (name : List ℕ) (most : ℕ) (Denotation : Data → X → Type 0)
    (key : X → K) (members : Members) (xs : List X) : Type 0 where
  pub rows : List Data
  pub list : AreRows (get_member name members) rows
  pub few : length rows ≤ most
  pub each_row : EachDenotes Denotation rows xs
  pub distinct : AreDistinctBy key xs

-- a table of version 1 denotes a topology, section by section; it has at least one flow
pub record DenotesDocument (members : Members) (topology : TopologyValue) : Type 0 where
  pub keys : IsTrue (has_only top_keys members)
  pub version : HasNumber (codes "version") members 1
  pub lans : DenotesLans members topology.lans
  pub routers : DenotesSection (codes "router") 256 DenotesRouter router_key members topology.routers
  pub interfaces : DenotesSection (codes "interface") 8192 (DenotesInterface topology.lans topology.routers)
      interface_key members topology.interfaces
  pub sources : DenotesSection (codes "source") 4096 (DenotesSource topology.lans) source_key members
      topology.sources
  pub flows : DenotesSection (codes "flow") 4096 (DenotesFlow topology.sources) flow_key members
      topology.flows
  pub some_flow : 0 < length topology.flows

-- a text denotes a topology: it has at most 16,777,216 bytes, is UTF-8, and TOML's reader accepts
-- it as a table that denotes the topology
pub record DenotesTopology (text : List ℕ) (topology : TopologyValue) : Type 0 where
  pub document : Members
  pub few : length text ≤ max_text
  pub utf8 : IsUtf8 text
  pub reads : parse_document text ≡ Some document
  pub denotes : DenotesDocument document topology

-- a text denotes a topology, and is within the bounds of what is read as TOML
pub record DenotesBoundedTopology (text : List ℕ) (topology : TopologyValue) : Type 0 where
  pub denotes : DenotesTopology text topology
  pub bounded : IsTrue (is_bounded text)
