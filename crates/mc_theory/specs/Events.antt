-- What is seen of a run, handling by handling: which interface took a copy with which TTL, and what
-- came of it.
use Rattle.std.specs.Prelude.{ℕ, not, ◌&&◌, nat_lt, ◌==◌, if◌then◌else◌, List, [], ◌∷◌, slice_get}
use Rattle.std.specs.Prelude.{Option, Some, None, is_some}
use Rattle.mc_theory.specs.Lists.{count_of}
use Rattle.mc_theory.specs.Nets.{Net, Row}
use Rattle.mc_theory.specs.Nets.Row.{Exact, Open as open_row, NoRow as no_row}
use Rattle.mc_theory.specs.Flights.{Waiting, Flight, step}

-- what came of a copy that a router took
pub data Outcome : Type 0 where
  -- the router's row isn't followed
  Open : Outcome
  -- the router has no row
  NoRow : Outcome
  -- the copy came in by another vif than the expected one
  OtherVif : Outcome
  -- it was forwarded: so many copies were put on LANs, and so many left the known domain
  Sent : (copies strays : ℕ) → Outcome

-- one router handling one copy, which waited at its vif with this TTL
pub record Event : Type 0 where
  pub router : ℕ
  pub vif : ℕ
  pub ttl : ℕ
  pub outcome : Outcome

-- how many of the pairs send a copy that came to the router with this TTL onto a LAN
abbrev pub onto_lan_count : Net → ℕ → ℕ → List (ℕ × ℕ) → ℕ
onto_lan_count net router ttl pairs =
    count_of (λ pair. nat_lt pair.1 ttl && is_some (net.placed router pair.0)) pairs

-- how many of the pairs send that copy out of the known domain
abbrev pub astray_count : Net → ℕ → ℕ → List (ℕ × ℕ) → ℕ
astray_count net router ttl pairs =
    count_of (λ pair. nat_lt pair.1 ttl && not (is_some (net.placed router pair.0))) pairs

-- what comes of a copy that these pairs send, which came to the router with this TTL
abbrev pub outcome_of_sending : Net → (router ttl : ℕ) → List (ℕ × ℕ) → Outcome
outcome_of_sending net router ttl pairs =
    Sent (onto_lan_count net router ttl pairs) (astray_count net router ttl pairs)

-- what comes of a waiting copy, by the router's row
abbrev pub outcome_by_row : Net → Waiting → Row → Outcome
outcome_by_row net waiting open_row = Open
outcome_by_row net waiting no_row = NoRow
outcome_by_row net waiting (Exact incoming pairs) =
    if incoming == waiting.vif then outcome_of_sending net waiting.router waiting.ttl pairs else OtherVif

-- the event in which a waiting copy is handled
abbrev pub event_of : Net → Waiting → Event
event_of net waiting = record {
  router = waiting.router;
  vif = waiting.vif;
  ttl = waiting.ttl;
  outcome = outcome_by_row net waiting (net.row waiting.router);
}

-- the event of a waiting copy, if there is one, and then others
abbrev pub prepend_event : Net → Option Waiting → List Event → List Event
prepend_event net None others = others
prepend_event net (Some waiting) others = event_of net waiting ∷ others

-- the events of a run without loss, which handles the waiting copies at these places
abbrev pub events : Net → List ℕ → Flight → List Event
events net [] flight = []
events net (place ∷ places) flight =
    prepend_event net (slice_get flight.waiting place) (events net places (step net place flight))

-- how many copies an outcome put on LANs
abbrev pub copies_in : Outcome → ℕ
copies_in Open = 0
copies_in NoRow = 0
copies_in OtherVif = 0
copies_in (Sent copies strays) = copies

-- how many copies left the known domain by an outcome; one that came to a row that isn't followed
-- is one of them
abbrev pub strays_in : Outcome → ℕ
strays_in Open = 1
strays_in NoRow = 0
strays_in OtherVif = 0
strays_in (Sent copies strays) = strays
