-- Paths of a flow's packets over the rows of the domain: to which LANs they lead, and which packets
-- get through. A path is a list of hops, from its last to its first.
use Rattle.std.specs.Prelude.{◌≡◌, ◌≢◌, ◌↔◌, ℕ, ◌+◌, ◌<◌, ◌≤◌, max, not, ◌==◌, if◌then◌else◌, List, []}
use Rattle.std.specs.Prelude.{◌∷◌, ◌++◌, filter, length, map, Some, None, ⊤}
use Rattle.mc_theory.specs.Lists.{In}
use Rattle.mc_theory.specs.Nets.{Net, Row, Interface}
use Rattle.mc_theory.specs.Nets.Row.{Exact, Open, NoRow}
use Rattle.mc_theory.specs.Flights.{Copy, Flight, Pick, IsCompleteRun}
use Rattle.mc_theory.specs.Certificates.{CarriesCopy}
use Rattle.mc_theory.specs.Findings.{first_copy_on}
use Rattle.mc_theory.specs.FindingMeaning.{IsFirstDouble}

-- ---- paths

-- A router takes a copy from LAN `from` and sends it by a vif onto LAN `onto`, if its TTL is above
-- a threshold.
pub record Hop : Type 0 where
  pub from : ℕ
  pub router : ℕ
  pub vif : ℕ
  pub threshold : ℕ
  pub onto : ℕ

-- The hop is one of the domain: its router's (S,G) entry takes from the one LAN, and has a pair of
-- the vif and the threshold, where the vif is placed on the other LAN.
pub record IsHop (net : Net) (hop : Hop) : Type 0 where
  pub incoming : ℕ
  pub pairs : List (ℕ × ℕ)
  pub row : net.row hop.router ≡ Exact incoming pairs
  pub takes : net.placed hop.router incoming ≡ Some hop.from
  pub pair : In (hop.vif, hop.threshold) pairs
  pub sends : net.placed hop.router hop.vif ≡ Some hop.onto

-- These hops lead from the one LAN to the other.
abbrev pub IsPath : Net → ℕ → List Hop → ℕ → Type 0
IsPath net from [] to = from ≡ to
IsPath net from (hop ∷ hops) to = (hop.onto ≡ to) × IsHop net hop × IsPath net from hops hop.from

-- One of these hops takes from the LAN.
abbrev pub PassesLan : ℕ → List Hop → Type 0
PassesLan lan hops = In lan (map (λ (hop : Hop). hop.from) hops)

-- ---- which packets get through

-- A packet sent with this TTL gets through: at each hop its TTL, which each hop before has lowered
-- by one, is greater than the threshold.
abbrev pub PassesHops : ℕ → List Hop → Type 0
PassesHops ttl [] = ⊤
PassesHops ttl (hop ∷ hops) = (length hops + hop.threshold < ttl) × PassesHops ttl hops

-- the least TTL with which a packet gets through these hops
abbrev pub need : List Hop → ℕ
need [] = 1
need (hop ∷ hops) = max (need hops) (length hops + hop.threshold + 1)

-- A packet sent with `packet_ttl` is stopped at the hop: it gets through the hops before, and what
-- is left of its TTL there isn't greater than the threshold.
pub record IsStopped (packet_ttl : ℕ) (hops : List Hop) (hop : Hop) (left : ℕ) : Type 0 where
  pub after : List Hop
  pub before : List Hop
  pub split : hops ≡ after ++ hop ∷ before
  pub comes : PassesHops packet_ttl before
  pub ttl : left + length before ≡ packet_ttl
  pub stops : left ≤ hop.threshold

-- The LAN is reached: some path leads to it from the source's LAN, whatever TTL it needs.
abbrev pub IsReached : Net → ℕ → Type 0
IsReached net lan = (hops : List Hop) × IsPath net net.source hops lan

-- The LAN is reached with this TTL: by some path to it packets sent with it get through.
abbrev pub IsReachedWithTtl : Net → ℕ → ℕ → Type 0
IsReachedWithTtl net ttl lan = (hops : List Hop) × IsPath net net.source hops lan × PassesHops ttl hops

-- `least` is the least TTL with which the LAN is reached: with a TTL from 1 to 255 it is reached
-- exactly if that is at least so much.
abbrev pub IsLeastReachingTtl : Net → (lan least : ℕ) → Type 0
IsLeastReachingTtl net lan least =
    (ttl : ℕ) → 1 ≤ ttl → ttl ≤ 255 → IsReachedWithTtl net ttl lan ↔ (least ≤ ttl)

-- ---- the path of a copy

-- The copy came by these hops from the source's LAN: by its own sender's, from a LAN whose first
-- copy came by the hops before that one.
abbrev pub CameByHops : Net → List Copy → Copy → List Hop → Type 0
CameByHops net copies copy [] = copy.sender ≡ None
CameByHops net copies copy (hop ∷ hops) =
    (copy.sender ≡ Some (hop.router, hop.vif)) × (hop.onto ≡ copy.lan) × IsHop net hop
    × ((first : Copy) × (first_copy_on copies hop.from ≡ Some first) × CameByHops net copies first hops)

-- The hop is the one by which the copy was sent: its sender's, onto its LAN.
abbrev pub IsSentByHop : Net → Copy → Hop → Type 0
IsSentByHop net copy hop =
    (copy.sender ≡ Some (hop.router, hop.vif)) × (hop.onto ≡ copy.lan) × IsHop net hop

-- The copy came by these hops from the LAN, without passing it in between: by the one that it was
-- sent by, from the LAN itself, or from another one, whose first copy came from it by the hops
-- before that one.
abbrev pub CameFromLan : Net → List Copy → ℕ → Copy → List Hop → Type 0
CameFromLan net copies lan copy [] = ⊥
CameFromLan net copies lan copy (hop ∷ []) = IsSentByHop net copy hop × (hop.from ≡ lan)
CameFromLan net copies lan copy (hop ∷ before ∷ hops) =
    IsSentByHop net copy hop × (hop.from ≢ lan)
    × ((first : Copy) × (first_copy_on copies hop.from ≡ Some first)
    × CameFromLan net copies lan first (before ∷ hops))

-- ---- a remedy

-- a row without its pairs of the vif
abbrev pub row_without_vif : ℕ → Row → Row
row_without_vif vif (Exact incoming pairs) = Exact incoming (filter (λ pair. not (pair.0 == vif)) pairs)
row_without_vif vif Open = Open
row_without_vif vif NoRow = NoRow

-- The domain in which the interface is taken out of its router's row; all else is the same.
abbrev pub take_out : Interface → Net → Net
take_out interface net = record net {
  row = λ router.
      if router == interface.0 then row_without_vif interface.1 (net.row router) else net.row router;
}

-- Each LAN that is reached with this TTL in the domain is reached with it in the domain `after`.
abbrev pub KeepsReach : Net → Net → (ttl : ℕ) → Type 0
KeepsReach net after ttl = (lan : ℕ) → IsReachedWithTtl net ttl lan → IsReachedWithTtl after ttl lan

-- Each LAN that carries a copy in some run of a packet with this TTL in the domain carries one in
-- each complete run that loses none in the domain `after`.
abbrev pub KeepsDelivery : Net → Net → (ttl : ℕ) → Type 0
KeepsDelivery net after ttl = (picks after_picks : List Pick) (lan : ℕ) →
    IsCompleteRun after ttl after_picks → CarriesCopy net ttl picks lan →
    CarriesCopy after ttl after_picks lan

-- The interface sent the copy, the flight's first copy that has an earlier one on its LAN, and the
-- first copy of that LAN came by these hops.
pub record IsSpareInterface (net : Net) (flight : Flight) (copy : Copy) (interface : Interface)
    (hops : List Hop) : Type 0 where
  pub first_double : IsFirstDouble flight.carried copy
  pub sender : copy.sender ≡ Some interface
  pub first : Copy
  pub first_on : first_copy_on flight.carried copy.lan ≡ Some first
  pub came_by_hops : CameByHops net flight.carried first hops

-- ---- two copies of a LAN

-- The first copy of the LAN `onto` and its second, the first of these copies that has an earlier
-- one on its LAN, came by two paths: their last hops are those of two senders, and the second path
-- doesn't pass the LAN before its end.
pub record ReachedByTwoPaths (net : Net) (copies : List Copy) (onto : ℕ) : Type 0 where
  pub first : Copy
  pub second : Copy
  pub first_on : first_copy_on copies onto ≡ Some first
  pub first_double : IsFirstDouble copies second
  pub lan : second.lan ≡ onto
  pub senders : first.sender ≢ second.sender
  pub first_path : List Hop
  pub first_came : CameByHops net copies first first_path
  pub first_leads : IsPath net net.source first_path onto
  pub second_path : List Hop
  pub second_came : CameByHops net copies second second_path
  pub second_leads : IsPath net net.source second_path onto
  pub not_before : ¬ PassesLan onto second_path

-- The second copy of the LAN `onto` came from the LAN itself: the walk back from that copy to the
-- LAN is a path that leads from the LAN back to it, whose last hop's interface sent the copy. It
-- has fewer hops than there are carried copies.
pub record LoopedBack (net : Net) (copies : List Copy) (onto : ℕ) : Type 0 where
  pub second : Copy
  pub first_double : IsFirstDouble copies second
  pub lan : second.lan ≡ onto
  pub last_hop : Hop
  pub sender : second.sender ≡ Some (last_hop.router, last_hop.vif)
  pub before : List Hop
  pub closed : IsPath net onto (last_hop ∷ before) onto
  pub came_by_hops : CameFromLan net copies onto second (last_hop ∷ before)
  pub few : length (last_hop ∷ before) < length copies
