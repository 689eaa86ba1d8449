-- What an accepted list of entries, a flow's part of a certificate, promises of the flow: no LAN
-- carries two copies, none leaves the known domain, no more copies are made than the list names
-- LANs, and, if none was lost, once none waits each wanting LAN has carried exactly one.
use Rattle.std.specs.Prelude.{◌≡◌, ℕ, ◌≤◌, true, List, [], length, map}
use Rattle.mc_theory.specs.Nets.{Net}
use Rattle.mc_theory.specs.Flights.{Flight, Pick, copy_count_on, start, run, InRange, IsLossless, EveryRun}
use Rattle.mc_theory.specs.Flights.Pick.{Handles}

-- The promise is kept by the flight that the run of these picks ends with, where the list names
-- `named` LANs.
pub record PromiseHolds (net : Net) (named : ℕ) (picks : List Pick) (flight : Flight) : Type 0 where
  -- no LAN carries two copies (the source's copy is one)
  pub no_two_copies : (lan : ℕ) → copy_count_on flight.carried lan ≤ 1
  -- none leaves the known domain
  pub none_leaves : flight.strays ≡ []
  -- no more copies are made than the list names LANs
  pub no_more_than_named : length flight.carried ≤ named
  -- and, if none was lost, once none waits each wanting LAN has carried exactly one
  pub each_wanting_one : IsLossless picks → flight.waiting ≡ [] →
      (lan : ℕ) → net.wants lan ≡ true → copy_count_on flight.carried lan ≡ 1

-- The promise is kept for every packet sent with at least the flow's TTL, and every order in which
-- its copies are handled or lost.
abbrev pub HeadlineHolds : Net → ℕ → Type 0
HeadlineHolds net named = EveryRun net net.ttl (λ ttl picks flight. PromiseHolds net named picks flight)

-- P holds of the last flight of each run in which no copy was lost and none waits any more, of a
-- packet sent with at least the flow's TTL.
abbrev pub EveryHandledFlight : Net → (Flight → Type 0) → Type 0
EveryHandledFlight net P = (ttl : ℕ) (places : List ℕ) → net.ttl ≤ ttl → ttl ≤ 255 →
    InRange net (map Handles places) (start net ttl) →
    (run net (map Handles places) (start net ttl)).waiting ≡ [] →
    P (run net (map Handles places) (start net ttl))
