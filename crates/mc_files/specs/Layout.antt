-- The slots of a domain: the places of its parts in their fixed order, and the two names of each,
-- in a bundle and in a folder (docs/FORMATS.md).
use Rattle.std.specs.Prelude.{ℕ, ◌+◌, ◌*◌, Bool, true, false, List, [], ◌∷◌, ◌++◌, codes, map, flat_map}
use Rattle.std.specs.Prelude.{Option, Some, None, length, slice_get}
use Rattle.mc_topology.specs.SectionRows.{RouterRow}
use Rattle.mc_topology.specs.Topology.{TopologyValue}
use Rattle.mc_files.specs.declared.slot.SlotKind.{SlotKind}
use Rattle.mc_files.specs.declared.slot.SlotKind.TheVariants.{Topology, Vifs, Cache, Reports, Certificate}

-- the word for a kind of slots
abbrev pub kind_word : SlotKind → List ℕ
kind_word Topology = codes "topology"
kind_word Vifs = codes "vif"
kind_word Cache = codes "cache"
kind_word Reports = codes "igmp"
kind_word Certificate = codes "certificate"

-- a slot: what is in it, and whose it is
pub record Slot : Type 0 where
  -- the word for its kind
  pub kind : List ℕ
  -- the router or the LAN that it belongs to, if it belongs to one
  pub owner : Option (List ℕ)

-- the kind, and after it, if there is an owner, `between` and the owner's name
abbrev pub joined : (between kind : List ℕ) → Option (List ℕ) → List ℕ
joined between kind None = kind
joined between kind (Some owner) = kind ++ (between ++ owner)

-- the name of the slot's part in a bundle
abbrev pub part_name : Slot → List ℕ
part_name slot = joined (codes "/") slot.kind slot.owner

-- the name of the slot's file in a folder
abbrev pub file_name : Slot → List ℕ
file_name slot = joined (codes "-") slot.kind slot.owner

-- ---- the slots of a domain

-- the slot of the topology
abbrev pub topology_slot : Slot
topology_slot = record { kind = kind_word Topology; owner = None }

-- the slot of a router's vif table
abbrev pub vif_slot : (router : List ℕ) → Slot
vif_slot router = record { kind = kind_word Vifs; owner = Some router }

-- the slot of a router's cache
abbrev pub cache_slot : (router : List ℕ) → Slot
cache_slot router = record { kind = kind_word Cache; owner = Some router }

-- the slot of a LAN's list of reports
abbrev pub reports_slot : (lan : List ℕ) → Slot
reports_slot lan = record { kind = kind_word Reports; owner = Some lan }

-- the slot of the certificate
abbrev pub certificate_slot : Slot
certificate_slot = record { kind = kind_word Certificate; owner = None }

-- the slot of a router's table: of its vifs, or else of its cache
abbrev pub table_slot : (vifs : Bool) → (router : List ℕ) → Slot
table_slot true router = vif_slot router
table_slot false router = cache_slot router

-- the slots of a router's two tables
abbrev pub router_slots : RouterRow → List Slot
router_slots row = vif_slot row.name ∷ cache_slot row.name ∷ []

-- the slot of the certificate, if the domain has one
abbrev pub certificate_slots : (certified : Bool) → List Slot
certificate_slots true = certificate_slot ∷ []
certificate_slots false = []

-- the slots after the topology's: those of the routers, those of the LANs, and that of the
-- certificate
abbrev pub slots_after_topology : (certified : Bool) → TopologyValue → List Slot
slots_after_topology certified topology =
    flat_map router_slots topology.routers ++
    (map reports_slot topology.lans ++ certificate_slots certified)

-- all slots of a domain, in their fixed order
abbrev pub slots : (certified : Bool) → TopologyValue → List Slot
slots certified topology = topology_slot ∷ slots_after_topology certified topology

-- ---- their numbers, counted from 0

-- the number of the first LAN's slot: before it are the topology's and two of each router
abbrev pub first_lan_number : TopologyValue → ℕ
first_lan_number topology = 1 + 2 * length topology.routers

-- a slot that the domain of a topology has without a certificate, by its number
pub record SlotNumber : Type 0 where
  pub topology : TopologyValue
  pub number : ℕ

-- the slot with the number, if there is one
abbrev pub numbered_slot : SlotNumber → Option Slot
numbered_slot number = slice_get (slots false number.topology) number.number
