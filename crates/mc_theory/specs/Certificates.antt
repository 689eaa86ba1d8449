-- When a list of entries certifies a flow, and what then holds of every run. An entry is one of a
-- certificate here; what a router has for the flow is its row.
use Rattle.std.specs.Prelude.{◌≡◌, ◌≢◌, ℕ, ◌+◌, ◌≤◌, nat_lt, max, Bool, true, List, [], map, length, flat_map}
use Rattle.std.specs.Prelude.{Option, Some, None, IsSome, ◌↔◌}
use Rattle.mc_theory.specs.Lists.{In, Distinct}
use Rattle.mc_theory.specs.Nets.{Net, Interface, interfaces}
use Rattle.mc_theory.specs.Nets.Row.{Exact, Open}
use Rattle.mc_theory.specs.Flights.{Copy, Flight, Pick, start, run, IsLossless, EveryRun}

-- ---- entries

-- A LAN that the flow's packets reach: how many routers are between the source's LAN and it (its
-- rank), the least TTL of a packet that reaches it (its need), and the interface that sends onto
-- it, its forwarder; without a forwarder the source itself sends.
pub record Entry : Type 0 where
  pub lan : ℕ
  pub rank : ℕ
  pub need : ℕ
  pub forwarder : Option Interface

-- A pair with this threshold, whose row takes from a LAN of this rank, sends packets of some TTL: a
-- copy comes to it with that TTL less the rank, which is greater than the threshold for some TTL up
-- to 255, the greatest that there is.
abbrev pub IsLive : ℕ → ℕ → Type 0
IsLive rank threshold = rank + threshold + 1 ≤ 255

-- whether such a pair is live
abbrev pub is_live : ℕ → ℕ → Bool
is_live rank threshold = nat_lt (rank + threshold) 255

-- the entry of the source's LAN
abbrev pub source_entry_of : Net → Entry
source_entry_of net = record { lan = net.source; rank = 0; need = 1; forwarder = None }

-- The router has an (S,G) entry whose incoming vif is placed on the LAN of the entry `parent`, and
-- the vif and the threshold are one of its pairs, live at the rank of that entry.
pub record Feeds (net : Net) (parent : Entry) (router vif threshold : ℕ) : Type 0 where
  pub incoming : ℕ
  pub pairs : List (ℕ × ℕ)
  pub row : net.row router ≡ Exact incoming pairs
  pub from : net.placed router incoming ≡ Some parent.lan
  pub pair : In (vif, threshold) pairs
  pub live : IsLive parent.rank threshold

-- The entry `child` is what comes of the entry `parent` by this pair of the router: one router
-- further from the source, and reached by the packets that reach the parent and pass the threshold
-- there.
pub record IsChild (parent : Entry) (router vif threshold : ℕ) (child : Entry) : Type 0 where
  pub forwarder : child.forwarder ≡ Some (router, vif)
  pub rank : child.rank ≡ parent.rank + 1
  pub need : child.need ≡ max parent.need (parent.rank + threshold + 1)

-- ---- the conditions (our own choice: what has to hold so that every order comes to the same end)

-- The entries are the tree that the domain's live pairs make, from the source on. A LAN is named
-- if an entry has it. All conditions but the last:
pub record IsTree (net : Net) (entries : List Entry) : Type 0 where
  -- One entry. No LAN is named twice.
  pub one_entry : Distinct (map (λ entry. entry.lan) entries)
  -- Source entry. The source's LAN is named with rank 0, need 1 and no forwarder;
  pub source_entry : In (source_entry_of net) entries
  -- every other entry has a forwarder.
  pub others_fed : (entry : Entry) → In entry entries → entry.lan ≢ net.source → IsSome entry.forwarder
  -- No wildcard. No router whose row is open has a vif placed on a named LAN.
  pub no_wildcard : (entry : Entry) (router vif : ℕ) →
      In entry entries → net.row router ≡ Open → net.placed router vif ≢ Some entry.lan
  -- No stray. Where a row takes from a named LAN, the vif of each of its live pairs is placed.
  pub no_stray : (parent : Entry) (router vif threshold : ℕ) → In parent entries →
      Feeds net parent router vif threshold → IsSome (net.placed router vif)
  -- Tree. The LAN on which that vif is placed is named, and its entry is the child of the entry of
  -- the LAN that the row takes from.
  pub tree : (parent : Entry) (router vif threshold onto : ℕ) →
      In parent entries → Feeds net parent router vif threshold → net.placed router vif ≡ Some onto →
      (entry : Entry) × In entry entries × (entry.lan ≡ onto) × IsChild parent router vif threshold entry
  -- Fed. Each entry's forwarder is placed on the entry's LAN, and has a live pair in a row that takes
  -- from a named LAN.
  pub fed : (entry : Entry) (router vif : ℕ) →
      In entry entries → entry.forwarder ≡ Some (router, vif) →
      (parent : Entry) × (threshold : ℕ) × In parent entries × Feeds net parent router vif threshold
      × (net.placed router vif ≡ Some entry.lan)

-- Served. Each wanting LAN is named, with a need that all packets of the flow meet.
abbrev pub IsServed : Net → List Entry → Type 0
IsServed net entries = (lan : ℕ) → net.wants lan ≡ true →
    (entry : Entry) × In entry entries × (entry.lan ≡ lan) × (entry.need ≤ net.ttl)

-- The list certifies the flow: all conditions hold.
pub record IsAccepted (net : Net) (entries : List Entry) : Type 0 where
  pub is_tree : IsTree net entries
  pub served : IsServed net entries

-- The other list has the same entries, in any order, and names no LAN twice.
pub record IsReordering (entries others : List Entry) : Type 0 where
  pub one_entry : Distinct (map (λ entry. entry.lan) others)
  pub to : (entry : Entry) → In entry entries → In entry others
  pub from : (entry : Entry) → In entry others → In entry entries

-- The list names the LAN, with this need.
abbrev pub IsNamedWithNeed : List Entry → (lan need : ℕ) → Type 0
IsNamedWithNeed entries lan need =
    (entry : Entry) × In entry entries × (entry.lan ≡ lan) × (entry.need ≡ need)

-- ---- what holds of a run

-- the LAN of each copy, in order
abbrev pub lans : List Copy → List ℕ
lans copies = map (λ copy. copy.lan) copies

-- The LAN carries a copy in the run of a packet with this TTL by these picks.
abbrev pub CarriesCopy : Net → (ttl : ℕ) → List Pick → (lan : ℕ) → Type 0
CarriesCopy net ttl picks lan = In lan (lans (run net picks (start net ttl)).carried)

-- no LAN carried two copies, and none left the known domain
pub record IsClean (flight : Flight) : Type 0 where
  pub once : Distinct (lans flight.carried)
  pub none_stray : flight.strays ≡ []

-- The copy of a packet sent with `packet_ttl` is as its LAN's entry says: the forwarder sent it,
-- its TTL is that of the packet less the rank, and that of the packet meets the need.
pub record FitsEntry (packet_ttl : ℕ) (entry : Entry) (copy : Copy) : Type 0 where
  pub lan : entry.lan ≡ copy.lan
  pub sender : entry.forwarder ≡ copy.sender
  pub ttl : copy.ttl + entry.rank ≡ packet_ttl
  pub need : entry.need ≤ packet_ttl

-- how many interfaces are placed on named LANs
abbrev pub interface_count_of_named_lans : Net → List Entry → ℕ
interface_count_of_named_lans net entries = length (flat_map (λ entry. interfaces net entry.lan) entries)

-- A run of a packet with this TTL, complete or not, with or without losses, is safe by these
-- entries.
pub record IsSafe (net : Net) (entries : List Entry) (ttl : ℕ) (picks : List Pick) (flight : Flight)
    : Type 0 where
  -- no LAN carried two copies, and there is no stray
  pub clean : IsClean flight
  -- each carried copy is on a named LAN, as its entry says
  pub named : (copy : Copy) → In copy flight.carried → (entry : Entry) × In entry entries
      × FitsEntry ttl entry copy
  -- there are no more copies than entries
  pub copies : length flight.carried ≤ length entries
  -- and no more steps than interfaces placed on named LANs
  pub steps : length picks ≤ interface_count_of_named_lans net entries

-- A LAN carried a copy of a packet with this TTL exactly if it is named with a need that the TTL
-- meets.
abbrev pub IsDelivered : List Entry → ℕ → Flight → Type 0
IsDelivered entries ttl flight = (lan : ℕ) →
    In lan (lans flight.carried) ↔ ((entry : Entry) × In entry entries × (entry.lan ≡ lan)
    × (entry.need ≤ ttl))

-- If the run is complete and lost no copy, exactly those LANs carried one.
abbrev pub IsDeliveredWhole : List Entry → ℕ → List Pick → Flight → Type 0
IsDeliveredWhole entries ttl picks flight =
    IsLossless picks → flight.waiting ≡ [] → IsDelivered entries ttl flight

-- ---- right

-- In a run no LAN carried two copies, there is no stray, and if the run is complete and lost no
-- copy, each wanting LAN carried one.
pub record IsRightAt (net : Net) (ttl : ℕ) (picks : List Pick) (flight : Flight) : Type 0 where
  pub clean : IsClean flight
  pub served : IsLossless picks → flight.waiting ≡ [] →
      (lan : ℕ) → net.wants lan ≡ true → In lan (lans flight.carried)

-- The flow is right: that holds of every packet sent with at least its TTL, in every order. It
-- doesn't depend on a certificate.
abbrev pub IsRight : Net → Type 0
IsRight net = EveryRun net net.ttl (IsRightAt net)
