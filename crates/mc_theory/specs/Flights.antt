-- A packet's copies: which LANs carried one, where one waits for a router, and which left the known
-- domain. In one step one router interface handles one waiting copy whole, or that copy is lost; a
-- run is a list of such steps, in any order.
use Rattle.std.specs.Prelude.{◌≡◌, ℕ, ◌-◌, ◌<◌, ◌≤◌, Bool, false, not, ◌&&◌, nat_lt, ◌==◌, if◌then◌else◌}
use Rattle.std.specs.Prelude.{List, [], ◌∷◌, ◌++◌, map, filter, length, remove, slice_get, Option}
use Rattle.std.specs.Prelude.{Some, None, ⊤}
use Rattle.mc_theory.specs.Lists.{count_of}
use Rattle.mc_theory.specs.Nets.{Net, Row, Interface, interfaces}
use Rattle.mc_theory.specs.Nets.Row.{Exact, Open, NoRow}

-- ---- flights

-- a copy that a LAN carried, the TTL that it had there, and the interface that sent it; no
-- interface where the source itself sent it
pub record Copy : Type 0 where
  pub lan : ℕ
  pub ttl : ℕ
  pub sender : Option Interface

-- a copy that waits at a router's vif, with its TTL
pub record Waiting : Type 0 where
  pub router : ℕ
  pub vif : ℕ
  pub ttl : ℕ

-- What has come of a packet so far: the copies that LANs carried, those that wait, and the strays.
-- A stray is where a copy left the known domain: the interface by which it left, or at which it
-- came to a row that isn't followed. Each of the lists grows at its end.
pub record Flight : Type 0 where
  pub carried : List Copy
  pub waiting : List Waiting
  pub strays : List Interface

-- how many copies a LAN carried
abbrev pub copy_count_on : List Copy → ℕ → ℕ
copy_count_on copies lan = count_of (λ copy. copy.lan == lan) copies

-- ---- a LAN carries a copy

-- whether the interface is the one that sent a copy
abbrev pub is_sender : Option Interface → Interface → Bool
is_sender None interface = false
is_sender (Some sender) interface = (sender.0 == interface.0) && (sender.1 == interface.1)

-- the interfaces that hear a copy: those of its LAN, but for the one that sent it
abbrev pub hearers : Net → Copy → List Interface
hearers net copy = filter (λ interface. not (is_sender copy.sender interface)) (interfaces net copy.lan)

-- a copy with this TTL that waits at the interface
abbrev pub waits_at : ℕ → Interface → Waiting
waits_at ttl interface = record { router = interface.0; vif = interface.1; ttl = ttl }

-- The copy is put on its LAN, which carries it, and then it waits at each interface that hears it.
abbrev pub put : Net → Copy → Flight → Flight
put net copy flight = record flight {
  carried = flight.carried ++ copy ∷ [];
  waiting = flight.waiting ++ map (waits_at copy.ttl) (hearers net copy);
}

-- The flight has one more stray.
abbrev pub stray : Interface → Flight → Flight
stray interface flight = record flight { strays = flight.strays ++ interface ∷ [] }

-- ---- a router handles a waiting copy

-- A copy with this TTL leaves by the interface, onto the LAN on which that is placed. One that
-- isn't placed (a tunnel and a register vif never are) leads out of the known domain.
abbrev pub leave : Net → ℕ → Interface → Option ℕ → Flight → Flight
leave net ttl interface None flight = stray interface flight
leave net ttl interface (Some lan) flight =
    put net (record { lan = lan; ttl = ttl; sender = Some interface }) flight

-- What one outgoing pair of the router does with a copy that came with this TTL: it sends one on if
-- the TTL is greater than the pair's threshold, with one TTL less (net/ipv4/ipmr.c: `ip_mr_forward`
-- tests `ip_hdr(skb)->ttl > c->_c.mfc_un.res.ttls[ct]`, and `ipmr_queue_xmit` takes one off).
abbrev pub send : Net → ℕ → ℕ → ℕ × ℕ → Flight → Flight
send net router ttl pair flight =
    if nat_lt pair.1 ttl
    then leave net (ttl - 1) (router, pair.0) (net.placed router pair.0) flight
    else flight

-- What all pairs of a row do, in the list's order, which is by ascending vif where a kernel has the
-- row. The kernel goes from the last to the first; nothing but the order of events depends on that.
abbrev pub sends : Net → ℕ → ℕ → List (ℕ × ℕ) → Flight → Flight
sends net router ttl [] flight = flight
sends net router ttl (pair ∷ pairs) flight = sends net router ttl pairs (send net router ttl pair flight)

-- What a router's row does with a copy that waited and was taken away. By an (S,G) entry it is
-- forwarded only if it came in by the expected vif (RFC 7761, section 4.2; `ip_mr_forward`), and
-- then by every pair, also one of the incoming vif, as the kernel does. A row that isn't followed
-- makes a stray (our own choice). Where there is no row, nothing comes of it.
abbrev pub handle_by_row : Net → Waiting → Row → Flight → Flight
handle_by_row net waiting Open flight = stray (waiting.router, waiting.vif) flight
handle_by_row net waiting NoRow flight = flight
handle_by_row net waiting (Exact incoming pairs) flight =
    if incoming == waiting.vif then sends net waiting.router waiting.ttl pairs flight else flight

-- What comes of a copy that waited and was taken away, if there was one.
abbrev pub handle : Net → Option Waiting → Flight → Flight
handle net None flight = flight
handle net (Some waiting) flight = handle_by_row net waiting (net.row waiting.router) flight

-- the flight without its waiting copy at this place, counted from 0; the others keep their order
abbrev pub without_waiting : ℕ → Flight → Flight
without_waiting place flight = record flight { waiting = remove flight.waiting place }

-- The waiting copy at this place is taken away and handled.
abbrev pub step : Net → ℕ → Flight → Flight
step net place flight = handle net (slice_get flight.waiting place) (without_waiting place flight)

-- ---- runs

-- the source's copy of a packet with this TTL
abbrev pub source_copy : Net → ℕ → Copy
source_copy net ttl = record { lan = net.source; ttl = ttl; sender = None }

-- the flight in which the source's LAN has carried a packet with this TTL, and no router has
-- handled it
abbrev pub start : Net → ℕ → Flight
start net ttl = put net (source_copy net ttl) (record { carried = []; waiting = []; strays = [] })

-- What happens next: the waiting copy at a place, counted from 0, is handled, or it is lost.
pub data Pick : Type 0 where
  Handles : (place : ℕ) → Pick
  Loses : (place : ℕ) → Pick

-- which of the waiting copies is picked
abbrev pub picked_index : Pick → ℕ
picked_index (Handles place) = place
picked_index (Loses place) = place

-- the flight after one pick
abbrev pub apply_pick : Net → Pick → Flight → Flight
apply_pick net (Handles place) flight = step net place flight
apply_pick net (Loses place) flight = without_waiting place flight

-- the flight after these picks, one after another
abbrev pub run : Net → List Pick → Flight → Flight
run net [] flight = flight
run net (pick ∷ picks) flight = run net picks (apply_pick net pick flight)

-- each pick names a copy that waits when its turn comes
abbrev pub InRange : Net → List Pick → Flight → Type 0
InRange net [] flight = ⊤
InRange net (pick ∷ picks) flight =
    (picked_index pick < length flight.waiting) × InRange net picks (apply_pick net pick flight)

-- no pick loses a copy
abbrev pub IsLossless : List Pick → Type 0
IsLossless [] = ⊤
IsLossless (Handles place ∷ picks) = IsLossless picks
IsLossless (Loses place ∷ picks) = ⊥

-- The picks are a run of a packet with this TTL that lost no copy and is complete: none waits any
-- more.
pub record IsCompleteRun (net : Net) (ttl : ℕ) (picks : List Pick) : Type 0 where
  pub in_range : InRange net picks (start net ttl)
  pub lossless : IsLossless picks
  pub none_waits : (run net picks (start net ttl)).waiting ≡ []

-- P holds of every run: for each TTL of a packet from `least` to 255, and all picks by which its
-- copies are handled or lost, in any order, P holds of the TTL, the picks and the flight that the
-- run ends with. The run is complete if nothing waits there.
abbrev pub EveryRun : Net → ℕ → (ℕ → List Pick → Flight → Type 0) → Type 0
EveryRun net least P = (ttl : ℕ) (picks : List Pick) →
    least ≤ ttl → ttl ≤ 255 → InRange net picks (start net ttl) →
    P ttl picks (run net picks (start net ttl))
