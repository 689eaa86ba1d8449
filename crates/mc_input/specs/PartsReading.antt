-- The input that the parts of a domain are read as, from a bundle or a folder, or the first fault
-- (docs/FORMATS.md, "The parts of a domain"): of the topology, of which parts there are, and then of the
-- parts' contents in the order of the slots.
use Rattle.std.specs.Prelude.{ℕ, ◌+◌, List, [], ◌∷◌, Result, Ok}
use Rattle.std.specs.FinMap.{FinMap}
use Rattle.std.specs.Ordering.{nat_cmp}
use Rattle.mc_text.specs.Steps.{◌>>=◌, map_fault}
use Rattle.mc_bundle.specs.Bundle.{PartText}
use Rattle.mc_text.specs.declared.text.addr.Order.{Order}
use Rattle.mc_tables.specs.VifTable.{VifValue}
use Rattle.mc_tables.specs.CacheTable.{CacheValue}
use Rattle.mc_tables.specs.VifReading.{vifs_in}
use Rattle.mc_tables.specs.CacheReading.{cache_in}
use Rattle.mc_igmp.specs.declared.record.Record.{Record}
use Rattle.mc_igmp.specs.ReadingList.{read_list}
use Rattle.mc_topology.specs.SectionRows.{RouterRow}
use Rattle.mc_topology.specs.Reading.{parse_topology}
use Rattle.mc_topology.specs.Topology.{TopologyValue}
use Rattle.mc_files.specs.Layout.{Slot, cache_slot, first_lan_number, reports_slot, topology_slot}
use Rattle.mc_files.specs.Layout.{vif_slot}
use Rattle.mc_forward.specs.Domains.{TablesValue}
use Rattle.mc_input.specs.Input.{InputValue}
use Rattle.mc_input.specs.declared.fault.InputFault.{InputFault}
use Rattle.mc_input.specs.declared.fault.InputFault.TheVariants.{Topology, Vif, Cache, Reports}

-- ---- one part

-- the topology that a part has
abbrev pub topology_of : PartText → Result TopologyValue InputFault
topology_of part = map_fault Topology (parse_topology part.bytes)

-- the vifs of a router that a part has
abbrev pub vifs_of : PartText → Result (FinMap nat_cmp VifValue) InputFault
vifs_of part = map_fault (Vif part.name) (vifs_in part.bytes)

-- the forwarding cache of a router that a part has
abbrev pub cache_of : Order → PartText → Result CacheValue InputFault
cache_of order part = map_fault (Cache part.name) (cache_in order part.bytes)

-- the records of a LAN's reports that a part has
abbrev pub reports_of : PartText → Result (List Record) InputFault
reports_of part = map_fault (Reports part.name) (read_list part.bytes)

-- the result of reading a part, if it could be given; the part's fault is made one of the caller's by
-- `as_ours`
abbrev pub read_part : {X F : Type 0} → (InputFault → F) → Result PartText F
    → (PartText → Result X InputFault) → Result X F
read_part as_ours given read = given >>= λ part. map_fault as_ours (read part)

-- ---- all parts: `source` gives the part of a slot, by the slot and its number

-- the tables of a router with this name and byte order, whose slots have this number and the next one
unfoldable pub router_tables : {F : Type 0} → (InputFault → F) → (ℕ → Slot → Result PartText F)
    → ℕ → (name : List ℕ) → Order → Result TablesValue F
router_tables as_ours source number name order =
    read_part as_ours (source number (vif_slot name)) vifs_of
    >>= λ vifs. read_part as_ours (source (number + 1) (cache_slot name)) (cache_of order)
    >>= λ entries. Ok (record { vifs = vifs; cache = entries })

-- the tables of these routers, whose slots have the numbers from this one on
unfoldable pub all_tables : {F : Type 0} → (InputFault → F) → (ℕ → Slot → Result PartText F)
    → ℕ → List RouterRow → Result (List TablesValue) F
all_tables as_ours source number [] = Ok []
all_tables as_ours source number (row ∷ rows) =
    router_tables as_ours source number row.name row.order
    >>= λ tables. all_tables as_ours source (number + 2) rows
    >>= λ others. Ok (tables ∷ others)

-- the records of the reports of these LANs, whose slots have the numbers from this one on
unfoldable pub all_reports : {F : Type 0} → (InputFault → F) → (ℕ → Slot → Result PartText F)
    → ℕ → List (List ℕ) → Result (List (List Record)) F
all_reports as_ours source number [] = Ok []
all_reports as_ours source number (lan ∷ lans) =
    read_part as_ours (source number (reports_slot lan)) reports_of
    >>= λ records. all_reports as_ours source (number + 1) lans
    >>= λ others. Ok (records ∷ others)

-- the input of this topology, with the tables and the reports that the source gives
unfoldable pub read_tables_and_reports : {F : Type 0} → (InputFault → F) → (ℕ → Slot → Result PartText F)
    → TopologyValue → Result InputValue F
read_tables_and_reports as_ours source topology =
    all_tables as_ours source 1 topology.routers
    >>= λ tables. all_reports as_ours source (first_lan_number topology) topology.lans
    >>= λ reports. Ok (record { topology = topology; tables = tables; reports = reports })

-- The input, where `source` gives the part of a slot, `judge` checks with the topology which parts there are,
-- and `as_ours` makes a part's fault one of the caller's.
unfoldable pub read_input : {F : Type 0} → (InputFault → F) → (ℕ → Slot → Result PartText F)
    → (TopologyValue → Result (Unit {0}) F) → Result InputValue F
read_input as_ours source judge =
    read_part as_ours (source 0 topology_slot) topology_of
    >>= λ tables. judge tables
    >>= λ _. read_tables_and_reports as_ours source tables
