-- The sources and groups of no listed flow that an audit shows, with their routers, and how many further rows
-- there are (docs/FORMATS.md, the section "The program": the lines `unlisted`). A pair has its group first.
use Rattle.std.specs.Prelude.{◌≡◌, ◌≤◌, ◌*◌, ℕ, Bool, List, length, map}
use Rattle.mc_tables.specs.Summary.{SummaryValue}
use Rattle.mc_topology.specs.Topology.{TopologyValue}
use Rattle.mc_shown.specs.UnlistedText.{further_rows, shown_unlisted_pairs, routers_below, routers_with}
use Rattle.mc_shown.specs.declared.unlisted.unlisted_pairs.UnlistedPairs.{UnlistedPairs}

-- a pair, with the routers below a number whose summaries have it
abbrev pub with_routers_below : List SummaryValue → (number : ℕ) → ℕ × ℕ → (ℕ × ℕ) × List ℕ
with_routers_below summary number pair = (pair, routers_below summary number pair)

-- a pair, with all routers whose summaries have it
abbrev pub with_routers : TopologyValue → List SummaryValue → ℕ × ℕ → (ℕ × ℕ) × List ℕ
with_routers topology summary pair = (pair, routers_with topology summary pair)

-- The shown pairs, each with all its routers, and the number of further rows. The bound is why 64 bits can
-- hold that number for at most 2 ^ 32 routers.
pub record AreUnlistedPairs (all : Bool) (topology : TopologyValue) (summary : List SummaryValue)
    (pairs : UnlistedPairs) : Type 0 where
  pub shown : pairs.shown.items ≡ map (with_routers topology summary) (shown_unlisted_pairs all summary)
  pub further : pairs.further ≡ further_rows all topology summary
  pub bounded : pairs.further ≤ length summary * 4294967295
