-- No value of a line has a fraction.
use Rattle.std.proofs.Common.{◌≡◌, ℕ, Bool, true, false, List, [], ◌∷◌, ◌++◌, Option, Some, None, map}
use Rattle.std.proofs.Common.{◌==◌, cond, option_map, refl}
use Rattle.std.proofs.lemmas.Bool.{or_parts}
use Rattle.mc_tables.specs.CacheTable.{EntryValue}
use Rattle.mc_tables.specs.VifTable.{VifValue}
use Rattle.mc_topology.specs.Topology.{TopologyValue, flow_at}
use Rattle.mc_topology.specs.declared.flow.Flow.{Flow}
use Rattle.mc_theory.specs.Certificates.{Entry}
use Rattle.mc_theory.specs.Events.{Event, Outcome}
use Rattle.mc_theory.specs.Events.Outcome.{Open as open_row, NoRow as no_row, OtherVif, Sent}
use Rattle.mc_theory.specs.Nets.{Interface, Net, Row}
use Rattle.mc_theory.specs.Nets.Row.{Exact, Open, NoRow}
use Rattle.mc_forward.specs.Domains.{oif_pairs}
use Rattle.mc_forward.specs.ListedTables.{DomainFacts}
use Rattle.mc_replay.specs.declared.finding.Finding.{Finding}
use Rattle.mc_replay.specs.declared.finding.Finding.TheVariants.{Clean, Duplicate, Loop, Stray, Missed}
use Rattle.serde_json.specs.Data.{Data, null}
use Rattle.serde_json.specs.View.{items_of}
use Rattle.serde_json.specs.Written.{has_float, items_have_float}
use Rattle.mc_json.specs.RowData.{device_data_of, entry_data, every_source_row_data, oif_data}
use Rattle.mc_json.specs.RowData.{flow_row_data, row_data, incoming_device, incoming_vif, count_data}
use Rattle.mc_json.specs.RowData.{lan_data, router_data}
use Rattle.mc_json.specs.FlowData.{event_data, finding_data, passed_vifs, interface_router, interface_vif}
use Rattle.mc_json.specs.FlowData.{outcome_data, reached_data, right_data, optional_finding_data}
use Rattle.mc_json.specs.FlowData.{tree_data}
use Rattle.mc_json.specs.EndData.{unlisted_data}
use Rattle.mc_json.specs.AskedData.{address_data, asked_data_of, service_data, want_source_data}
use Rattle.mc_asked.specs.ListWants.{Want}
use Rattle.mc_shown.specs.declared.asked.asked_text.AskedLine.{AskedLine}
use Rattle.mc_json.specs.TreeKey.{taking_interface}

-- ---- lists

-- no value of the list has a fraction
abbrev pub HaveNoFloat : List Data → Type 0
HaveNoFloat ds = items_have_float (items_of ds) ≡ false

-- a value for each item
pub no_float-map : {A : Type 0} (f : A → Data) → ((x : A) → has_float (f x) ≡ false)
    → (xs : List A) → HaveNoFloat (map f xs)
no_float-map f each [] = refl
no_float-map f each (x ∷ xs) = rw (each x) (no_float-map f each xs)

-- two lists
pub no_float-append : (xs ys : List Data) → HaveNoFloat xs → HaveNoFloat ys → HaveNoFloat (xs ++ ys)
no_float-append [] ys first then = then
no_float-append (x ∷ xs) ys first then =
    let both = or_parts (has_float x) (items_have_float (items_of xs)) first in
    rw both.0 (no_float-append xs ys both.1 then)

-- ---- rows

-- a vif's device, or null
pub no_float-device_data : (o : Option VifValue) → has_float (device_data_of o) ≡ false
no_float-device_data None = refl
no_float-device_data (Some v) = refl

-- an outgoing vif
no_float-oif_data : (d : DomainFacts) (router : ℕ) (p : ℕ × ℕ) → has_float (oif_data d router p) ≡ false
no_float-oif_data d router p = rw (no_float-device_data (d.vifs router p.0))

-- an entry
no_float-entry_data : (d : DomainFacts) (router source group incoming : ℕ) (pairs : List (ℕ × ℕ))
    → has_float (entry_data d router source group incoming pairs) ≡ false
no_float-entry_data d router source group incoming pairs =
    rw (
      no_float-device_data (d.vifs router incoming),
      no_float-map (oif_data d router)
          (no_float-oif_data d router) pairs,
    )

-- a row for a flow
no_float-row_data : (d : DomainFacts) (f : Flow) (router : ℕ) (row : Row)
    → has_float (row_data d f router row) ≡ false
no_float-row_data d f router (Exact incoming pairs) = no_float-entry_data d router f.source f.group incoming
    pairs
no_float-row_data d f router Open = refl
no_float-row_data d f router NoRow = refl

-- a router's row for a flow
pub no_float-flow_row_data : (d : DomainFacts) (flow router : ℕ)
    → has_float (flow_row_data d flow router) ≡ false
no_float-flow_row_data d flow router =
    no_float-row_data d (flow_at d.topology flow) router ((d.nets flow).row router)

-- a (*,G) entry, or null
pub no_float-every_source_row_data : (d : DomainFacts) (router : ℕ) (o : Option (ℕ × EntryValue))
    → has_float (every_source_row_data d router o) ≡ false
no_float-every_source_row_data d router None = refl
no_float-every_source_row_data d router (Some row) = no_float-entry_data d router 0 row.0 row.1.iif
    (oif_pairs row.1.oifs)

-- the incoming device of a row
pub no_float-incoming_device : (d : DomainFacts) (router : ℕ) (row : Row)
    → has_float (incoming_device d router row) ≡ false
no_float-incoming_device d router (Exact incoming pairs) = no_float-device_data (d.vifs router incoming)
no_float-incoming_device d router Open = refl
no_float-incoming_device d router NoRow = refl

-- its incoming vif
pub no_float-incoming_vif : (row : Row) → has_float (incoming_vif row) ≡ false
no_float-incoming_vif (Exact incoming pairs) = refl
no_float-incoming_vif Open = refl
no_float-incoming_vif NoRow = refl

-- ---- flows

-- the router of an interface, or null
no_float-interface_router : (t : TopologyValue) (o : Option Interface)
    → has_float (interface_router t o) ≡ false
no_float-interface_router t None = refl
no_float-interface_router t (Some i) = refl

-- its vif, or null
no_float-interface_vif : (o : Option Interface) → has_float (interface_vif o) ≡ false
no_float-interface_vif None = refl
no_float-interface_vif (Some i) = refl

-- a LAN of a tree
no_float-reached_data : (t : TopologyValue) (n : Net) (e : Entry) → has_float (reached_data t n e) ≡ false
no_float-reached_data t n e =
    rw (
      no_float-interface_vif (taking_interface n e.forwarder),
      no_float-interface_router t e.forwarder,
      no_float-interface_vif e.forwarder,
    )

-- a tree
pub no_float-tree_data : (t : TopologyValue) (n : Net) (es : List Entry) (tree : ℕ)
    → has_float (tree_data t n es tree) ≡ false
no_float-tree_data t n es tree = rw (no_float-map (reached_data t n) (no_float-reached_data t n) es)

-- names of LANs
pub no_float-lans : (t : TopologyValue) (lans : List ℕ) → HaveNoFloat (map (lan_data t) lans)
no_float-lans t lans = no_float-map (lan_data t) (λ lan. refl) lans

-- a right flow
pub no_float-right_data : (whole : Bool) (number : ℕ) (f : Flow) (copies tree : ℕ) (wanted : List Data)
    → HaveNoFloat wanted → has_float (right_data whole number f copies tree wanted) ≡ false
no_float-right_data true number f copies tree wanted plain = rw plain
no_float-right_data false number f copies tree wanted plain = rw plain

-- an event with its outcome
no_float-outcome_data : (t : TopologyValue) (n : Net) (e : Event) (o : Outcome)
    → has_float (outcome_data t n e o) ≡ false
no_float-outcome_data t n e open_row = refl
no_float-outcome_data t n e no_row = refl
no_float-outcome_data t n e OtherVif = refl
no_float-outcome_data t n e (Sent copies strays) =
    rw (no_float-map count_data (λ vif. refl) (passed_vifs e.ttl (n.row e.router)))

-- events
pub no_float-events : (t : TopologyValue) (n : Net) (es : List Event) → HaveNoFloat (map (event_data t n) es)
no_float-events t n es = no_float-map (event_data t n) (λ e. no_float-outcome_data t n e e.outcome) es

-- a finding
pub no_float-finding_data : (t : TopologyValue) (f : Finding) → has_float (finding_data t f) ≡ false
no_float-finding_data t Clean = refl
no_float-finding_data t (Duplicate lan) = refl
no_float-finding_data t (Loop lan) = refl
no_float-finding_data t (Stray router vif) = refl
no_float-finding_data t (Missed lan) = refl

-- a finding, or null
pub no_float-optional_finding : (t : TopologyValue) (found : Option Finding)
    → has_float (optional_finding_data t found) ≡ false
no_float-optional_finding t None = refl
no_float-optional_finding t (Some finding) = no_float-finding_data t finding

-- ---- after the flows

-- names of routers
pub no_float-routers : (t : TopologyValue) (routers : List ℕ) → HaveNoFloat (map (router_data t) routers)
no_float-routers t routers = no_float-map (router_data t) (λ router. refl) routers

-- a source and a group that aren't listed
pub no_float-unlisted_data : (t : TopologyValue) (source group : ℕ) (routers : List ℕ)
    → has_float (unlisted_data t source group routers) ≡ false
no_float-unlisted_data t source group routers = rw (no_float-routers t routers)

-- ---- wants that no flow answers

-- addresses
no_float-addresses : (addresses : List ℕ) → HaveNoFloat (map address_data addresses)
no_float-addresses addresses = no_float-map address_data (λ address. refl) addresses

-- a want's source, or null for any
no_float-want_source_data : (source : ℕ) → has_float (want_source_data source) ≡ false
no_float-want_source_data source = elim (source == 0) as (λ b.
    has_float (cond b null (address_data source)) ≡ false) [
      | true ↦ refl
      | false ↦ refl
    ]

-- a want that no flow answers
pub no_float-asked_data : (t : TopologyValue) (line : AskedLine) → has_float (asked_data_of t line) ≡ false
no_float-asked_data t line = rw (
  no_float-lans t line.lans.now,
  no_float-addresses line.listed.now,
  no_float-routers t line.routers.now.none_out.items,
  no_float-routers t line.routers.now.forwards.items,
  no_float-want_source_data line.want.now.1,
  no_float-routers t line.routers.now.every_source.items,
)

-- a service
no_float-service_data : (t : TopologyValue) (line : Want × List ℕ) → has_float (service_data t line) ≡ false
no_float-service_data t line = rw (no_float-lans t line.1)

-- services
pub no_float-services : (t : TopologyValue) (lines : List (Want × List ℕ))
    → HaveNoFloat (map (service_data t) lines)
no_float-services t lines = no_float-map (service_data t) (no_float-service_data t) lines
