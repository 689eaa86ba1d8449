-- The search for a LAN that a packet missed (docs/FORMATS.md, "The search"): the lines of each LAN, by the
-- tables of the routers that have an interface on it, and the LANs to which these lines lead.
use Rattle.std.specs.Prelude.{◌≡◌, ◌==◌, ◌&&◌, ◌||◌, ℕ, zero, suc, not, Bool, false, List, [], ◌∷◌}
use Rattle.std.specs.Prelude.{◌++◌, length, flat_map, Option, Some, None, is_some, slice_get}
use Rattle.std.specs.Prelude.{option_and_then}
use Rattle.std.specs.Prelude.{if◌then◌else◌, slice_index_or}
use Rattle.std.specs.List.{filter_map, list_any}
use Rattle.std.specs.FinSet as set
use Rattle.mc_tables.specs.VifTable.{VifValue}
use Rattle.mc_tables.specs.CacheTable.{EntryValue}
use Rattle.mc_tables.specs.Summary.{SummaryValue, every_source_row}
use Rattle.mc_topology.specs.Topology.{flow_at, flow_key}
use Rattle.mc_theory.specs.Nets.{Net, Row, is_lan}
use Rattle.mc_theory.specs.Nets.Row.{Exact, Open, NoRow as no_row}
use Rattle.mc_theory.specs.Flights.{Copy}
use Rattle.mc_theory.specs.Findings.{first_copy_on, taken_from}
use Rattle.mc_theory.specs.CertificateOfCopies.{row_pairs, threshold_of}
use Rattle.mc_forward.specs.Domains.{DomainValue, IsDomain}
use Rattle.mc_forward.specs.ListedTables.{DomainFacts, facts}
use Rattle.mc_search.specs.declared.search_line.SearchLine.{SearchLine}
use Rattle.mc_search.specs.declared.search_line.SearchLine.TheVariants.{Excluded}
use Rattle.mc_search.specs.declared.search_line.SearchLine.TheVariants.{NoVif, NotMulticast, NoRow}
use Rattle.mc_search.specs.declared.search_line.SearchLine.TheVariants.{Unresolved, EverySource}
use Rattle.mc_search.specs.declared.search_line.SearchLine.TheVariants.{FromUnplaced, DoesNotSend}
use Rattle.mc_search.specs.declared.search_line.SearchLine.TheVariants.{Stopped, WaitsFor}
use Rattle.mc_search.specs.declared.search_line.SearchLine.TheVariants.{ExpectedFromHere, NoRouter}
use Rattle.mc_search.specs.declared.search_line.SearchLine.TheVariants.{NoSender}
use Rattle.mc_search.specs.declared.listed_interface.ListedInterface.{ListedInterface}
use Rattle.mc_search.specs.TopologyLans.{interfaces_on_lan}

-- ---- what a search reads

-- A router's entry for every source of this group, with the group 0.0.0.0 if it is for every group too. The
-- summaries are in the topology's order of routers.
abbrev pub every_source_of : List SummaryValue → (group router : ℕ) → Option (ℕ × EntryValue)
every_source_of summary group router =
    option_and_then (λ rows. every_source_row rows group) (slice_get summary router)

-- What a search reads: a domain and a flow of it, the summary of each router's cache, which routers are
-- excluded, and the first copy on each LAN.
pub record Search : Type 0 where
  pub domain : DomainFacts
  pub flow : ℕ
  pub summary : List SummaryValue
  pub excluded : List Bool
  pub first_copy_on : ℕ → Option Copy

-- the search of a domain's flow, by these summaries, marks of excluded routers, and carried copies
abbrev pub search_of : DomainValue → (flow : ℕ) → List SummaryValue → (excluded : List Bool) → List Copy
    → Search
search_of domain flow summary excluded copies = record {
  domain = facts domain;
  flow = flow;
  summary = summary;
  excluded = excluded;
  first_copy_on = first_copy_on copies;
}

-- The search reads the tables of a domain that keeps the rules of every domain.
pub record IsSearchIn (d : DomainValue) (search : Search) : Type 0 where
  pub domain : IsDomain d
  pub same : search.domain ≡ facts d

-- the net of the flow
abbrev pub net : Search → Net
net search = search.domain.nets search.flow

-- whether a router is marked as excluded, so that its tables are not known
abbrev pub is_excluded : List Bool → (router : ℕ) → Bool
is_excluded marks router = slice_index_or marks router false

-- whether a LAN carried a copy of the packet
abbrev pub carried : Search → (lan : ℕ) → Bool
carried search lan = is_some (search.first_copy_on lan)

-- the flow's source and group
abbrev pub source_and_group : Search → ℕ × ℕ
source_and_group search = flow_key (flow_at search.domain.topology search.flow)

-- whether a summary has an unresolved entry for a source and a group
abbrev pub unresolved_by : Option SummaryValue → ℕ × ℕ → Bool
unresolved_by None pair = false
unresolved_by (Some summary) pair = set.contains summary.unresolved pair

-- whether a router has an unresolved entry for the flow
abbrev pub is_unresolved : Search → (router : ℕ) → Bool
is_unresolved search router = unresolved_by (slice_get search.summary router) (source_and_group search)

-- the entry that a router has for every source, of the flow's group or else of every group, with the group
-- that it has
abbrev pub row_for_every_source : Search → (router : ℕ) → Option (ℕ × EntryValue)
row_for_every_source search router = every_source_of search.summary (source_and_group search).1 router

-- ---- what a router's row for the flow comes to

-- whether these pairs of a row send by a vif; thresholds are 1 or more
abbrev pub sends_by : ℕ → List (ℕ × ℕ) → Bool
sends_by vif pairs = not (threshold_of vif pairs == 0)

-- the line of a row that sends onto the LAN by this vif: that the copy is stopped, where the LAN that the row
-- takes from carried one, or else that the row waits for one
abbrev pub stopped_or_waiting : Option Copy → (lan router vif from threshold : ℕ) → SearchLine
stopped_or_waiting None lan router vif from threshold = WaitsFor lan router vif from
stopped_or_waiting (Some copy) lan router vif from threshold = Stopped lan router vif threshold copy.ttl

-- the line of a vif on the LAN, of a router whose row takes from another LAN
abbrev pub vif_line : Search → (lan router from : ℕ) → List (ℕ × ℕ) → (vif : ℕ) → SearchLine
vif_line search lan router from pairs vif =
    if sends_by vif pairs
    then stopped_or_waiting (search.first_copy_on from) lan router vif from (threshold_of vif pairs)
    else DoesNotSend lan router vif from (carried search from)

-- the line of an interface's vif, if it has one and that is placed on the LAN
abbrev pub vif_lines : Search → (lan router from : ℕ) → List (ℕ × ℕ) → Option ℕ → List SearchLine
vif_lines search lan router from pairs None = []
vif_lines search lan router from pairs (Some vif) =
    if is_lan ((net search).placed router vif) lan
    then vif_line search lan router from pairs vif ∷ []
    else []

-- the lines of an exact row, by the LAN that it takes from: no LAN; this LAN itself, of which there are none;
-- or another one, of which there is one for each vif on this LAN
abbrev pub incoming_lines : Search → (lan router : ℕ) → List (ℕ × ℕ) → List ListedInterface
    → Option ℕ → List SearchLine
incoming_lines search lan router pairs interfaces None = FromUnplaced lan router ∷ []
incoming_lines search lan router pairs interfaces (Some from) =
    if from == lan then [] else flat_map (λ interface. vif_lines search lan router from pairs
    interface.vif) interfaces

-- the lines of a router's row
abbrev pub row_lines : Search → (lan router : ℕ) → List ListedInterface → Row → List SearchLine
row_lines search lan router interfaces (Exact incoming pairs) =
    incoming_lines search lan router pairs interfaces ((net search).placed router incoming)
row_lines search lan router interfaces Open = EverySource lan router ∷ []
row_lines search lan router interfaces no_row =
    (if is_unresolved search router then Unresolved lan router else NoRow lan router) ∷ []

-- ---- what a router's interfaces come to

-- whether a vif is a tunnel or a register vif
abbrev pub is_virtual : Option VifValue → Bool
is_virtual None = false
is_virtual (Some vif) = vif.tunnel || vif.register

-- the line of an interface that the topology has on the LAN, if its router has no vif of its device, or has
-- one that is a tunnel or a register vif
abbrev pub device_lines : Search → (lan : ℕ) → ListedInterface → Option ℕ → List SearchLine
device_lines search lan interface None = NoVif lan interface.router interface.interface ∷ []
device_lines search lan interface (Some vif) =
    if is_virtual (search.domain.vifs interface.router vif)
    then NotMulticast lan interface.router interface.interface ∷ []
    else []

-- ---- the routers of a LAN

-- these groups of interfaces, each of one router, with one more interface at the front: in the first group if
-- that is its router's, and otherwise in a group of its own
abbrev pub add_to_group : ListedInterface → List (ℕ × List ListedInterface)
    → List (ℕ × List ListedInterface)
add_to_group interface [] = (interface.router, interface ∷ []) ∷ []
add_to_group interface (listed ∷ routers) = if listed.0 == interface.router
    then (interface.router, interface ∷ listed.1) ∷ routers
    else (interface.router, interface ∷ []) ∷ listed ∷ routers

-- the interfaces in groups, each of adjacent ones of one router
abbrev pub group_by_router : List ListedInterface → List (ℕ × List ListedInterface)
group_by_router [] = []
group_by_router (interface ∷ interfaces) = add_to_group interface (group_by_router interfaces)

-- the router of a group of interfaces
abbrev pub router_of_group : ℕ × List ListedInterface → ℕ
router_of_group listed = listed.0

-- the routers that have an interface on a LAN, each with these interfaces
abbrev pub routers_on : Search → (lan : ℕ) → List (ℕ × List ListedInterface)
routers_on search lan = group_by_router (interfaces_on_lan search.domain lan)

-- the lines of a router whose tables are known: those of its row, and those of its interfaces
abbrev pub table_lines : Search → (lan : ℕ) → ℕ × List ListedInterface → List SearchLine
table_lines search lan listed =
    row_lines search lan listed.0 listed.1 ((net search).row listed.0)
    ++ flat_map (λ interface. device_lines search lan interface interface.vif) listed.1

-- the lines of a router; of an excluded one only that it is excluded
abbrev pub router_lines : Search → (lan : ℕ) → ℕ × List ListedInterface → List SearchLine
router_lines search lan listed =
    if is_excluded search.excluded listed.0 then Excluded lan listed.0 ∷ []
    else table_lines search lan listed

-- whether a router isn't excluded and its row takes from the LAN
abbrev pub is_expecting : Search → (lan router : ℕ) → Bool
is_expecting search lan router =
    not (is_excluded search.excluded router)
    && is_lan (taken_from (net search) router ((net search).row router)) lan

-- that a router expects copies from the LAN, if it does
abbrev pub expected_lines : Search → (lan : ℕ) → ℕ × List ListedInterface → List SearchLine
expected_lines search lan listed = if is_expecting search lan listed.0
    then ExpectedFromHere lan listed.0 ∷ [] else []

-- whether these pairs of a row send by a vif, if the interface has one
abbrev pub sends_by_known_vif : Option ℕ → List (ℕ × ℕ) → Bool
sends_by_known_vif None pairs = false
sends_by_known_vif (Some vif) pairs = sends_by vif pairs

-- whether a router's row sends by a vif whose device the topology has on the LAN
abbrev pub sends_here : Search → ℕ × List ListedInterface → Bool
sends_here search listed = list_any (λ interface. sends_by_known_vif interface.vif
    (row_pairs ((net search).row listed.0)))
    listed.1

-- whether a router may send onto the LAN: its row does, or isn't known
abbrev pub may_send_here : Search → ℕ × List ListedInterface → Bool
may_send_here search listed = is_excluded search.excluded listed.0 || sends_here search listed

-- the last line of a LAN, after the lines of its routers: there are no routers, or none that may send onto it
abbrev pub closing_lines : Search → (lan : ℕ) → List (ℕ × List ListedInterface) → List SearchLine
    → List SearchLine
closing_lines search lan routers [] = NoRouter lan ∷ []
closing_lines search lan routers (line ∷ lines) =
    if list_any (may_send_here search) routers then [] else NoSender lan ∷ []

-- the lines of a LAN's routers, and then those about routers that expect copies from the LAN
abbrev pub lines_of_routers : Search → (lan : ℕ) → List (ℕ × List ListedInterface) → List SearchLine
lines_of_routers search lan routers = flat_map (router_lines search lan) routers
    ++ flat_map (expected_lines search lan) routers

-- all lines of a LAN
abbrev pub lines_of_lan : Search → (lan : ℕ) → List SearchLine
lines_of_lan search lan =
    lines_of_routers search lan (routers_on search lan)
    ++ closing_lines search lan (routers_on search lan)
    (lines_of_routers search lan (routers_on search lan))

-- ---- the LANs that are searched

-- a LAN, if it carried no copy
abbrev pub if_missed : Search → Option ℕ → Option ℕ
if_missed search None = None
if_missed search (Some lan) = if carried search lan then None else Some lan

-- the LAN from which a router's entry for every source takes
abbrev pub every_source_from : Search → (router : ℕ) → Option (ℕ × EntryValue) → Option ℕ
every_source_from search router None = None
every_source_from search router (Some row) = (net search).placed router row.1.iif

-- the LAN that a line leads to: one that its router waits for, or that its entry for every source takes from,
-- if that LAN carried no copy
abbrev pub next_lan : Search → SearchLine → Option ℕ
next_lan search (WaitsFor lan router vif from) = Some from
next_lan search (EverySource lan router) =
    if_missed search (every_source_from search router (row_for_every_source search router))
next_lan search _ = None

-- the LANs that the lines of a LAN lead to
abbrev pub next_lans : Search → (lan : ℕ) → List ℕ
next_lans search lan = filter_map (next_lan search) (lines_of_lan search lan)

-- the visited LANs, and then those of the others that aren't among them, each once
abbrev pub append_new : List ℕ → List ℕ → List ℕ
append_new visited_lans [] = visited_lans
append_new visited_lans (lan ∷ lans) =
    append_new (if list_any (λ visited. visited == lan) visited_lans then visited_lans
    else visited_lans ++ lan ∷ []) lans

-- the visited LANs after one of them is searched
abbrev pub visited_after : Search → List ℕ → Option ℕ → List ℕ
visited_after search visited_lans None = visited_lans
visited_after search visited_lans (Some lan) = append_new visited_lans (next_lans search lan)

-- the visited LANs, in order, after as many of them are searched as there are steps
abbrev pub visited_lans : Search → (missed : ℕ) → (steps : ℕ) → List ℕ
visited_lans search missed zero = missed ∷ []
visited_lans search missed (suc k) =
    visited_after search (visited_lans search missed k) (slice_get (visited_lans search missed k) k)

-- ---- the search

-- all LANs of a search: after as many steps as there are LANs no more are visited
abbrev pub lans_of_search : Search → (missed : ℕ) → List ℕ
lans_of_search search missed = visited_lans search missed (length search.domain.topology.lans)

-- all lines of a search
abbrev pub search_lines : Search → (missed : ℕ) → List SearchLine
search_lines search missed = flat_map (lines_of_lan search) (lans_of_search search missed)
