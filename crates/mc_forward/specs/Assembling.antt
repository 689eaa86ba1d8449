-- The domain that a topology, the tables of its routers and the reports of its LANs make: as a
-- whole, and step by step.
use Rattle.std.specs.Prelude.{◌≡◌, ◌↔◌, ℕ, Bool, IsTrue, List, [], length, map, filter, Option}
use Rattle.std.specs.Prelude.{Some, None, slice_get, slice_index_or, option_and_then}
use Rattle.std.specs.FinMap as finite
use Rattle.mc_igmp.specs.declared.record.Record.{Record}
use Rattle.mc_igmp.specs.Wants.{Wants}
use Rattle.mc_filter.specs.ChannelPlaces.{IsWantedAnswer}
use Rattle.mc_topology.specs.declared.flow.Flow.{Flow}
use Rattle.mc_topology.specs.Topology.{TopologyValue}
use Rattle.mc_theory.specs.Lists.{below}
use Rattle.mc_theory.specs.Nets.{Interface, Row, is_lan, router_vif_pairs}
use Rattle.mc_forward.specs.Domains.{TablesValue, VifsValue, DomainValue, lan_of_vif, row_in_cache}
use Rattle.mc_forward.specs.Domains.{wants_of}

-- the domain with these fields
abbrev pub domain_with : TopologyValue → List VifsValue → List (List Row) → List (List Bool)
    → DomainValue
domain_with topology vifs rows wants =
    record { topology = topology; vifs = vifs; rows = rows; wants = wants }

-- each router's vifs, from its tables
abbrev pub vifs_by_tables : List TablesValue → List VifsValue
vifs_by_tables tables = map (λ router_tables. router_tables.vifs) tables

-- each router's row for each flow, from its tables
abbrev pub rows_by_tables : List Flow → List TablesValue → List (List Row)
rows_by_tables flows tables = map (λ router_tables. map (row_in_cache router_tables.cache) flows) tables

-- the domain of a topology, of the routers' tables, and of which LAN wants which flow
abbrev pub domain_of_tables : TopologyValue → List TablesValue → List (List Bool) → DomainValue
domain_of_tables topology tables wants =
    domain_with topology (vifs_by_tables tables) (rows_by_tables topology.flows tables) wants

-- there are two tables for each router, and a list of reports for each LAN
pub record HaveMatchingCounts (topology : TopologyValue) (tables : List TablesValue)
    (rs : List (List Record)) : Type 0 where
  pub routers : length tables ≡ length topology.routers
  pub lans : length rs ≡ length topology.lans

-- The domain of a topology, of the routers' tables and of the LANs' reports. A LAN wants a flow if
-- some record of its reports for the flow's group admits the flow's source (RFC 3376, section 3.2).
pub record IsAssembled (t : TopologyValue) (tables : List TablesValue) (reports : List (List Record))
    (domain : DomainValue) : Type 0 where
  pub topology : domain.topology ≡ t
  pub vifs : domain.vifs ≡ vifs_by_tables tables
  pub rows : domain.rows ≡ rows_by_tables t.flows tables
  pub wants : (lan flow : ℕ) (records : List Record) (listed : Flow) → slice_get reports lan ≡ Some records
      → slice_get t.flows flow ≡ Some listed
      → IsTrue (wants_of domain flow lan) ↔ Wants records listed.group listed.source

-- ---- step by step

-- R holds of the two items that both lists have at one place, wherever both have one
abbrev pub RelatedAtEachIndex : {A B : Type 0} → (A → B → Type 0) → List A → List B → Type 0
RelatedAtEachIndex {A} {B} R xs ys =
    (index : ℕ) (x : A) (y : B) → slice_get xs index ≡ Some x → slice_get ys index ≡ Some y → R x y

-- there is an answer for each of the channels: whether these records want it
pub record AreChannelsWanted (channels : List (ℕ × ℕ)) (records : List Record)
    (wanted : List Bool) : Type 0 where
  pub count : length wanted ≡ length channels
  pub each : RelatedAtEachIndex (IsWantedAnswer records) channels wanted

-- the answer is yes exactly if these records want the flow's channel
abbrev pub IsWanted : List Record → Flow → Bool → Type 0
IsWanted records flow wanted = IsWantedAnswer records (flow.source, flow.group) wanted

-- there is an answer for each of the flows: whether these records want it
pub record AreWanted (flows : List Flow) (records : List Record) (wanted : List Bool) : Type 0 where
  pub count : length wanted ≡ length flows
  pub each : RelatedAtEachIndex (IsWanted records) flows wanted

-- there is an answer for each LAN and each flow
pub record AreAnswers (topology : TopologyValue) (wants : List (List Bool)) : Type 0 where
  pub lans : length wants ≡ length topology.lans
  pub flows : (lan : ℕ) (wanted : List Bool) → slice_get wants lan ≡ Some wanted
      → length wanted ≡ length topology.flows

-- the LAN of each vif from 0 to 31 of one router, from the router's vifs
abbrev pub vif_lans_by_vifs : TopologyValue → ℕ → VifsValue → List (Option ℕ)
vif_lans_by_vifs topology router vifs =
    map (λ vif. option_and_then (lan_of_vif topology router) (finite.get vifs vif)) (below 32)

-- the LAN of a router's vif, from a table of the LANs of all vifs
abbrev pub vif_lan_in : List (List (Option ℕ)) → ℕ → ℕ → Option ℕ
vif_lan_in vif_lans router vif = slice_index_or (slice_index_or vif_lans router []) vif None

-- the interfaces of a LAN that are the first `routers` routers', from a table of the LANs of all
-- vifs
abbrev pub interfaces_by_vif_lans : List (List (Option ℕ)) → (routers : ℕ) → ℕ → List Interface
interfaces_by_vif_lans vif_lans routers lan =
    filter (λ interface. is_lan (vif_lan_in vif_lans interface.0 interface.1) lan)
    (router_vif_pairs 32 routers)

-- the interfaces of a LAN that are one router's and among these vifs, from the LANs of the router's
-- vifs
abbrev pub vifs_on : List (Option ℕ) → ℕ → ℕ → List ℕ → List Interface
vifs_on vif_lans router lan vifs =
    map (λ vif. (router, vif)) (filter (λ vif. is_lan (slice_index_or vif_lans vif None) lan) vifs)
