-- Small networks as values, on which the definitions are computed, and what they promise is judged
-- by hand. Routers r1 to r4 are 0 to 3, LANs l0 to l3 are 0 to 3, and the source sends on l0.
use Rattle.std.specs.Prelude.{ℕ, zero, suc, Bool, cond, ◌&&◌, ◌||◌, ◌==◌, List, [], ◌∷◌, ◌++◌, Option}
use Rattle.std.specs.Prelude.{Some, None}
use Rattle.mc_theory.specs.Nets.{Net, Row, Interface}
use Rattle.mc_theory.specs.Nets.Row.{Exact, Open, NoRow}
use Rattle.mc_theory.specs.Flights.{Copy, Flight, start, run}
use Rattle.mc_theory.specs.Certificates.{Entry}
use Rattle.mc_theory.specs.Findings.{handles}
use Rattle.mc_theory.specs.Paths.{Hop}

-- ---- networks from tables

-- a router, one of its vifs, and the LAN that it is placed on
abbrev pub Placement : Type 0
Placement = ℕ × ℕ × ℕ

-- the LAN on which a vif of a router is placed, by a table of placements
abbrev pub placed_by_table : List Placement → ℕ → ℕ → Option ℕ
placed_by_table [] router vif = None
placed_by_table (placement ∷ others) router vif =
    cond ((placement.0 == router) && (placement.1 == vif)) (Some placement.2)
    (placed_by_table others router vif)

-- a router's row, by a table of routers with their rows; no row for a router that isn't there
abbrev pub row_by_table : List (ℕ × Row) → ℕ → Row
row_by_table [] router = NoRow
row_by_table (first ∷ others) router = cond (first.0 == router) first.1 (row_by_table others router)

-- a network of `routers` routers, with these placements, rows, wanting LANs and TTL
abbrev pub network : ℕ → List Placement → List (ℕ × Row) → (ℕ → Bool) → ℕ → Net
network routers places rows wants ttl = record {
  routers = routers;
  placed = placed_by_table places;
  row = row_by_table rows;
  wants = wants;
  source = 0;
  ttl = ttl;
}

-- an entry with these fields
abbrev pub entry : ℕ → ℕ → ℕ → Option Interface → Entry
entry lan rank need forwarder = record {
  lan = lan;
  rank = rank;
  need = need;
  forwarder = forwarder;
}

-- a copy with these fields
abbrev pub copy : ℕ → ℕ → Option Interface → Copy
copy lan ttl sender = record { lan = lan; ttl = ttl; sender = sender }

-- the flight in which these copies were carried, none waits and none strayed
abbrev pub finished_flight : List Copy → Flight
finished_flight copies = record { carried = copies; waiting = []; strays = [] }

-- the picks of the first waiting copy, again and again, as many as the number says
abbrev pub fifo_picks : ℕ → List ℕ
fifo_picks zero = []
fifo_picks (suc count) = 0 ∷ fifo_picks count

-- the flight of a packet with TTL 255 after so many picks of the first waiting copy
abbrev pub fifo_flight : Net → ℕ → Flight
fifo_flight net count = run net (handles (fifo_picks count)) (start net 255)

-- the row that takes by vif 0 and sends by vif 1, with threshold 1
abbrev pub onward : Row
onward = Exact 0 ((1, 1) ∷ [])

-- ---- hops by vif 1

-- the hop above a threshold from one LAN by a router onto another
abbrev pub hop_above : ℕ → ℕ → ℕ → ℕ → Hop
hop_above threshold from router onto = record {
  from = from;
  router = router;
  vif = 1;
  threshold = threshold;
  onto = onto;
}

-- the hop of a router's onward row from one LAN onto another
abbrev pub onward_hop : ℕ → ℕ → ℕ → Hop
onward_hop from router onto = hop_above 1 from router onto

-- ---- the line: r1 forwards from l0 to l1, and r2 from l1 to l2, where a host listens

-- where the line's vifs are placed
abbrev pub line_places : List Placement
line_places = (0, 0, 0) ∷ (0, 1, 1) ∷ (1, 0, 1) ∷ (1, 1, 2) ∷ []

-- the line's placements with these rows and this TTL
abbrev pub line_with : List (ℕ × Row) → ℕ → Net
line_with rows ttl = network 2 line_places rows (λ lan. lan == 2) ttl

-- the line's rows
abbrev pub line_rows : List (ℕ × Row)
line_rows = (0, onward) ∷ (1, onward) ∷ []

-- the line, for a flow with this TTL
abbrev pub line : ℕ → Net
line ttl = line_with line_rows ttl

-- the line's last flight of a packet with TTL 3, handled by r1 and then by r2
abbrev pub line_end : Flight
line_end = finished_flight (copy 0 3 None ∷ copy 1 2 (Some (0, 1)) ∷ copy 2 1 (Some (1, 1)) ∷ [])

-- r2 sends by its vif 2 too, which is placed on no LAN
abbrev pub line_with_a_leak : Net
line_with_a_leak = line_with ((0, onward) ∷ (1, Exact 0 ((1, 1) ∷ (2, 1) ∷ [])) ∷ []) 3

-- r2 has a (*,G) entry, and no (S,G) one
abbrev pub line_with_an_open_row : Net
line_with_an_open_row = line_with ((0, onward) ∷ (1, Open) ∷ []) 3

-- the row that takes by vif 0 and sends by vif 1 and by vif 0
abbrev pub sends_back : Row
sends_back = Exact 0 ((0, 1) ∷ (1, 1) ∷ [])

-- r1 also sends by the vif that it takes from
abbrev pub line_that_sends_back : Net
line_that_sends_back = line_with ((0, sends_back) ∷ (1, onward) ∷ []) 3

-- the line without r2, where r1 has this row
abbrev pub r1_alone : Row → Net
r1_alone row = network 2 ((0, 0, 0) ∷ (0, 1, 1) ∷ []) ((0, row) ∷ []) (λ lan. lan == 2) 3

-- the entry of l0, the source's LAN
abbrev pub l0_entry : Entry
l0_entry = entry 0 0 1 None

-- the entry of l1, to which r1 forwards from l0
abbrev pub l1_entry : Entry
l1_entry = entry 1 1 2 (Some (0, 1))

-- the entry of l2, to which r2 forwards from l1
abbrev pub l2_entry : Entry
l2_entry = entry 2 2 3 (Some (1, 1))

-- the line's certificate
abbrev pub line_entries : List Entry
line_entries = l0_entry ∷ l1_entry ∷ l2_entry ∷ []

-- ---- the line and a third router

-- the line and r3, with this row and its vifs at these placements
abbrev pub line_with_third_router : List Placement → Row → ℕ → Net
line_with_third_router places row ttl = network 3 (places ++ line_places)
    ((2, row) ∷ (0, onward) ∷ (1, onward) ∷ []) (λ lan. lan == 2) ttl

-- r3 forwards from l0 to l2 as well
abbrev pub line_with_shortcut : ℕ → Net
line_with_shortcut ttl = line_with_third_router ((2, 0, 0) ∷ (2, 1, 2) ∷ []) onward ttl

-- r3 forwards from l2 back to l0
abbrev pub line_with_loop : ℕ → Net
line_with_loop ttl = line_with_third_router ((2, 0, 2) ∷ (2, 1, 0) ∷ []) onward ttl

-- ---- the diamond: r1 and r2 forward from l0 to l1 and l2, and r3 and r4 from there to l3, where a
-- host listens

-- where the diamond's vifs are placed
abbrev pub diamond_places : List Placement
diamond_places = (0, 0, 0) ∷ (0, 1, 1) ∷ (1, 0, 0) ∷ (1, 1, 2) ∷ (2, 0, 1) ∷ (2, 1, 3) ∷ (3, 0, 2)
    ∷ (3, 1, 3) ∷ []

-- the diamond's rows, of which r4 has none
abbrev pub diamond_rows : List (ℕ × Row)
diamond_rows = (0, onward) ∷ (1, onward) ∷ (2, onward) ∷ []

-- the diamond, in which r4 doesn't forward
abbrev pub diamond : Net
diamond = network 4 diamond_places diamond_rows (λ lan. lan == 3) 3

-- the diamond in which r4 forwards too
abbrev pub closed_diamond : Net
closed_diamond = network 4 diamond_places ((3, onward) ∷ diamond_rows) (λ lan. lan == 3) 3

-- the closed diamond's last flight of a packet with TTL 4, handled by each router in turn, and by
-- r4 and r3 at the vifs by which they hear each other
abbrev pub closed_diamond_end : Flight
closed_diamond_end = finished_flight (copy 0 4 None ∷ copy 1 3 (Some (0, 1)) ∷ copy 2 3 (Some (1, 1))
    ∷ copy 3 2 (Some (2, 1)) ∷ copy 3 2 (Some (3, 1)) ∷ [])

-- the path by r1 and r3 to l3
abbrev pub upper_path : List Hop
upper_path = onward_hop 1 2 3 ∷ onward_hop 0 0 1 ∷ []

-- the diamond's certificate
abbrev pub diamond_entries : List Entry
diamond_entries = l0_entry ∷ l1_entry ∷ entry 2 1 2 (Some (1, 1))
    ∷ entry 3 2 3 (Some (2, 1)) ∷ []

-- ---- the fork: r1 forwards from l0 to l1, with threshold 1, and to l2, with threshold 64; hosts
-- listen on both

-- where the fork's vifs are placed
abbrev pub fork_places : List Placement
fork_places = (0, 0, 0) ∷ (0, 1, 1) ∷ (0, 2, 2) ∷ []

-- the fork's row
abbrev pub fork_rows : List (ℕ × Row)
fork_rows = (0, Exact 0 ((1, 1) ∷ (2, 64) ∷ [])) ∷ []

-- the fork, for a flow with this TTL
abbrev pub fork : ℕ → Net
fork ttl = network 1 fork_places fork_rows (λ lan. (lan == 1) || (lan == 2)) ttl

-- the fork's last flight of a packet with TTL 65
abbrev pub fork_end : Flight
fork_end = finished_flight (copy 0 65 None ∷ copy 1 64 (Some (0, 1)) ∷ copy 2 64 (Some (0, 2)) ∷ [])

-- the fork's certificate
abbrev pub fork_entries : List Entry
fork_entries = l0_entry ∷ l1_entry ∷ entry 2 1 65 (Some (0, 2)) ∷ []

-- ---- the twins: r1 and r2 both forward from l0 to l1, where a host listens, and r1 with threshold
-- 64

-- the twins, for a flow with TTL 65
abbrev pub twins : Net
twins = network 2 ((0, 0, 0) ∷ (0, 1, 1) ∷ (1, 0, 0) ∷ (1, 1, 1) ∷ [])
    ((0, Exact 0 ((1, 64) ∷ [])) ∷ (1, onward) ∷ []) (λ lan. lan == 1) 65

-- the entries of l0 and of l1, with r1 as its forwarder
abbrev pub twins_entries : List Entry
twins_entries = l0_entry ∷ entry 1 1 65 (Some (0, 1)) ∷ []
