-- The lines in JSON of a flow, and of the tree of a right one (docs/FORMATS.md, "What `audit --json`
-- writes"). Members are in ascending order of their keys, and flows are numbered from 0 here, from 1 in JSON.
use Rattle.std.specs.Prelude.{ℕ, ◌+◌, Bool, true, false, List, [], ◌∷◌, ◌++◌, map, Option, Some, None}
use Rattle.std.specs.Prelude.{flat_map, if◌then◌else◌, nat_lt, codes}
use Rattle.mc_text.specs.Addr.{dotted}
use Rattle.mc_topology.specs.Topology.{TopologyValue}
use Rattle.mc_topology.specs.declared.flow.Flow.{Flow}
use Rattle.mc_theory.specs.Certificates.{Entry}
use Rattle.mc_theory.specs.Events.{Event, Outcome}
use Rattle.mc_theory.specs.Events.Outcome.{Open, NoRow, OtherVif, Sent}
use Rattle.mc_theory.specs.Nets.{Interface, Net, Row}
use Rattle.mc_theory.specs.CertificateOfCopies.{row_pairs}
use Rattle.mc_forward.specs.ListedTables.{DomainFacts}
use Rattle.mc_shown.specs.WantedText.{lans_wanting}
use Rattle.mc_replay.specs.declared.finding.Finding.{Finding}
use Rattle.mc_replay.specs.declared.finding.Finding.TheVariants.{Clean, Duplicate, Loop, Stray}
use Rattle.mc_replay.specs.declared.finding.Finding.TheVariants.{Missed}
use Rattle.serde_json.specs.Data.{Data, null, boolean, string}
use Rattle.mc_json.specs.RowData.{count_data, line_of, list_data, object_data}
use Rattle.mc_json.specs.RowData.{lan_data, router_data}
use Rattle.mc_json.specs.TreeKey.{taking_interface}

-- ---- any flow

-- the members that every flow has
abbrev pub flow_members : (number : ℕ) → Flow → List (List ℕ × Data)
flow_members number flow =
    (codes "flow", count_data (number + 1))
    ∷ (codes "group", string (dotted flow.group))
    ∷ (codes "source", string (dotted flow.source))
    ∷ (codes "ttl", count_data flow.ttl) ∷ []

-- ---- trees

-- the router of an interface; null for no interface
abbrev pub interface_router : TopologyValue → Option Interface → Data
interface_router topology None = null
interface_router topology (Some interface) = router_data topology interface.0

-- the vif of an interface; null for no interface
abbrev pub interface_vif : Option Interface → Data
interface_vif None = null
interface_vif (Some interface) = count_data interface.1

-- a certificate entry: the LAN, its need and rank, the router and vif that send onto it, and the vif at which
-- that router takes the packets; these three are null for the source's LAN
abbrev pub reached_data : TopologyValue → Net → Entry → Data
reached_data topology net entry = object_data (
    (codes "from_vif", interface_vif (taking_interface net entry.forwarder))
    ∷ (codes "lan", lan_data topology entry.lan)
    ∷ (codes "need", count_data entry.need)
    ∷ (codes "rank", count_data entry.rank)
    ∷ (codes "router", interface_router topology entry.forwarder)
    ∷ (codes "vif", interface_vif entry.forwarder) ∷ [])

-- a tree with its number
abbrev pub tree_data : TopologyValue → Net → List Entry → (tree : ℕ) → Data
tree_data topology net entries tree = object_data (
    (codes "entries", list_data (map (reached_data topology net) entries))
    ∷ (codes "tree", count_data tree) ∷ [])

-- ---- a right flow

-- that the flow is right, or null where a router is excluded (the domain isn't whole): then no fault is known
abbrev pub right_mark : (whole : Bool) → Data
right_mark true = boolean true
right_mark false = null

-- a right flow: how many LANs carry a copy of its packet, the number of its tree, and the LANs that want it
abbrev pub right_data : (whole : Bool) → (number : ℕ) → Flow → (copies tree : ℕ)
    → (wanted : List Data) → Data
right_data whole number flow copies tree wanted = object_data (
    (codes "copies", count_data copies)
    ∷ (codes "flow", count_data (number + 1))
    ∷ (codes "group", string (dotted flow.group))
    ∷ (codes "right", right_mark whole)
    ∷ (codes "source", string (dotted flow.source))
    ∷ (codes "tree", count_data tree)
    ∷ (codes "ttl", count_data flow.ttl)
    ∷ (codes "wanted", list_data wanted) ∷ [])

-- ---- a finding, and the events that show it

-- a finding that is about a LAN
abbrev pub finding_at_lan : TopologyValue → (kind : List ℕ) → (lan : ℕ) → Data
finding_at_lan topology kind lan = object_data (
    (codes "kind", string kind) ∷ (codes "lan", lan_data topology lan) ∷ [])

-- a finding
abbrev pub finding_data : TopologyValue → Finding → Data
finding_data topology Clean = object_data ((codes "kind", string (codes "Clean")) ∷ [])
finding_data topology (Duplicate lan) = finding_at_lan topology (codes "Duplicate") lan
finding_data topology (Loop lan) = finding_at_lan topology (codes "Loop") lan
finding_data topology (Stray router vif) = object_data (
    (codes "kind", string (codes "Stray"))
    ∷ (codes "router", router_data topology router)
    ∷ (codes "vif", count_data vif) ∷ [])
finding_data topology (Missed lan) = finding_at_lan topology (codes "Missed") lan

-- an outgoing vif, if a copy that came with this TTL passes its threshold
abbrev pub passed_vif : (ttl : ℕ) → ℕ × ℕ → List ℕ
passed_vif ttl pair = if nat_lt pair.1 ttl then pair.0 ∷ [] else []

-- the vifs by which a row sends a copy that came with this TTL, whether they are placed or not, in the row's
-- order, which is ascending
abbrev pub passed_vifs : (ttl : ℕ) → Row → List ℕ
passed_vifs ttl row = flat_map (passed_vif ttl) (row_pairs row)

-- the vifs by which copies went in an event that sent some
abbrev pub sent_vifs : Net → Event → List ℕ
sent_vifs net event = passed_vifs event.ttl (net.row event.router)

-- vifs by their numbers
abbrev pub vif_numbers_data : List ℕ → Data
vif_numbers_data vifs = list_data (map count_data vifs)

-- an event that sent no copies, with this outcome
abbrev pub event_without_copies_data : TopologyValue → Event → (outcome : List ℕ) → Data
event_without_copies_data topology event outcome = object_data (
    (codes "onto", vif_numbers_data [])
    ∷ (codes "outcome", string outcome)
    ∷ (codes "router", router_data topology event.router)
    ∷ (codes "ttl", count_data event.ttl)
    ∷ (codes "vif", count_data event.vif) ∷ [])

-- an event that sent copies and strays by these vifs
abbrev pub event_with_copies_data : TopologyValue → Event → (copies strays : ℕ) → (vifs : List ℕ) → Data
event_with_copies_data topology event copies strays vifs = object_data (
    (codes "copies", count_data copies)
    ∷ (codes "onto", vif_numbers_data vifs)
    ∷ (codes "outcome", string (codes "sent"))
    ∷ (codes "router", router_data topology event.router)
    ∷ (codes "strays", count_data strays)
    ∷ (codes "ttl", count_data event.ttl)
    ∷ (codes "vif", count_data event.vif) ∷ [])

-- an event with this outcome
abbrev pub outcome_data : TopologyValue → Net → Event → Outcome → Data
outcome_data topology net event Open = event_without_copies_data topology event (codes "open")
outcome_data topology net event NoRow = event_without_copies_data topology event (codes "no row")
outcome_data topology net event OtherVif = event_without_copies_data topology event (codes "other vif")
outcome_data topology net event (Sent copies strays) =
    event_with_copies_data topology event copies strays (sent_vifs net event)

-- an event
abbrev pub event_data : TopologyValue → Net → Event → Data
event_data topology net event = outcome_data topology net event event.outcome

-- a finding; null where there is none
abbrev pub optional_finding_data : TopologyValue → Option Finding → Data
optional_finding_data topology None = null
optional_finding_data topology (Some finding) = finding_data topology finding
