-- The hops of the walk back from a copy, found by the rows of the domain and the first copies of
-- LANs, and the hop at which a packet stops. All of it is our own choice.
use Rattle.std.specs.Prelude.{◌≡◌, ℕ, zero, suc, ◌-◌, nat_lt, ◌==◌, if◌then◌else◌, List, [], ◌∷◌}
use Rattle.std.specs.Prelude.{length, Option, Some, None}
use Rattle.mc_theory.specs.Nets.{Net, Interface}
use Rattle.mc_theory.specs.Flights.{Copy}
use Rattle.mc_theory.specs.Findings.{first_copy_on, sender_on, from_lan}
use Rattle.mc_theory.specs.CertificateOfCopies.{threshold_of, row_pairs}
use Rattle.mc_theory.specs.Paths.{Hop, IsSentByHop}

-- the hop of the interface onto LAN `onto`, from the LAN that its router's row takes from, if there
-- is one
abbrev pub hop_from_lan : Net → Interface → ℕ → Option ℕ → Option Hop
hop_from_lan net interface onto None = None
hop_from_lan net interface onto (Some from) = Some (record {
  from = from;
  router = interface.0;
  vif = interface.1;
  threshold = threshold_of interface.1 (row_pairs (net.row interface.0));
  onto = onto;
})

-- the hop of the interface onto LAN `onto`, by its router's row
abbrev pub hop_by : Net → Interface → ℕ → Option Hop
hop_by net interface onto = hop_from_lan net interface onto (from_lan net (Some interface))

-- the hop by which a sender sent onto LAN `onto`; the source has none
abbrev pub hop_sent : Net → Option Interface → ℕ → Option Hop
hop_sent net None onto = None
hop_sent net (Some interface) onto = hop_by net interface onto

-- ---- all hops back

-- a hop, if there is one, and after it those that follow it
abbrev pub hop_then : (Hop → List Hop) → Option Hop → List Hop
hop_then next None = []
hop_then next (Some hop) = hop ∷ next hop

-- The hops back from what this sender sent onto LAN `onto`, a limited number of them: after each
-- hop comes that of the sender of the first copy of the LAN from which it takes.
abbrev pub hops_back : Net → List Copy → ℕ → ℕ → Option Interface → List Hop
hops_back net copies zero onto sender = []
hops_back net copies (suc limit) onto sender =
    hop_then (λ hop. hops_back net copies limit hop.from (sender_on copies hop.from))
    (hop_sent net sender onto)

-- the hops back, as `hops_back` has them, up to the first that takes from the LAN
abbrev pub hops_until : Net → List Copy → ℕ → ℕ → ℕ → Option Interface → List Hop
hops_until net copies lan zero onto sender = []
hops_until net copies lan (suc limit) onto sender =
    hop_then
    (λ hop. if hop.from == lan
    then []
    else hops_until net copies lan limit hop.from (sender_on copies hop.from))
    (hop_sent net sender onto)

-- The hops back from the copy, one of these carried ones, to the source's LAN. In the flight of a
-- travel they are fewer than the carried copies.
abbrev pub hops_of_copy : Net → List Copy → Copy → List Hop
hops_of_copy net copies copy = hops_back net copies (length copies) copy.lan copy.sender

-- The hops back from the copy, one of these carried ones, to the LAN.
abbrev pub hops_of_copy_until : Net → List Copy → (lan : ℕ) → Copy → List Hop
hops_of_copy_until net copies lan copy = hops_until net copies lan (length copies) copy.lan copy.sender

-- The hop by which the interface sent the copy is the one that `hop_by` finds, and the LAN that it
-- takes from has a first copy among the carried ones.
pub record IsHopFound (net : Net) (copies : List Copy) (copy : Copy) (interface : Interface) : Type 0 where
  pub hop : Hop
  pub first : Copy
  pub found : hop_by net interface copy.lan ≡ Some hop
  pub sent : IsSentByHop net copy hop
  pub first_on : first_copy_on copies hop.from ≡ Some first

-- ---- a part of the walk

-- The walk back from the copy has come over these hops to the copy `reached`. Each hop but the
-- first sent the first copy of the LAN from which the one before it takes, and `reached` is the
-- first copy of the LAN from which the last one takes.
abbrev pub IsPathPart : Net → List Copy → Copy → List Hop → Copy → Type 0
IsPathPart net copies copy [] reached = copy ≡ reached
IsPathPart net copies copy (hop ∷ hops) reached =
    IsSentByHop net copy hop
    × ((first : Copy) × (first_copy_on copies hop.from ≡ Some first)
    × IsPathPart net copies first hops reached)

-- ---- where a packet stops

-- the hop at which the packet was stopped before, or else this hop, if it isn't passed by what is
-- left of the TTL
abbrev pub first_stop_or_here : Hop → ℕ → Option (Hop × ℕ) → Option (Hop × ℕ)
first_stop_or_here hop left (Some stop) = Some stop
first_stop_or_here hop left None = if nat_lt hop.threshold left then None else Some (hop, left)

-- the hop at which a packet sent with this TTL is stopped, and what is left of its TTL there, if it
-- is stopped
abbrev pub stopping_hop : ℕ → List Hop → Option (Hop × ℕ)
stopping_hop ttl [] = None
stopping_hop ttl (hop ∷ hops) = first_stop_or_here hop (ttl - length hops) (stopping_hop ttl hops)
