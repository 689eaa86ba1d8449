-- How far the packet came among the routers of a search, and the result of a search (docs/FORMATS.md, "The
-- search": the lines `reaches`).
use Rattle.std.specs.Prelude.{◌==◌, ◌&&◌, ℕ, not, Bool, true, false, List, [], map, filter}
use Rattle.std.specs.Prelude.{flat_map, ◌≡◌}
use Rattle.std.specs.List.{list_any}
use Rattle.mc_theory.specs.Events.{Event, Outcome}
use Rattle.mc_theory.specs.Events.Outcome.{Open, NoRow, OtherVif, Sent}
use Rattle.mc_search.specs.SearchLine.{Search, append_new, lans_of_search, router_of_group, routers_on}
use Rattle.mc_search.specs.SearchLine.{search_lines}
use Rattle.mc_search.specs.declared.reach.Handling.{Handling}
use Rattle.mc_search.specs.declared.reach.Handling.TheVariants.{SentOn, TookNone}
use Rattle.mc_search.specs.declared.search_line.SearchLine.{SearchLine}
use Rattle.mc_search.specs.declared.search_line.SearchLine.TheVariants.{Excluded}
use Rattle.mc_search.specs.declared.searching.LanSearch.{LanSearch}

-- whether a router that is handled so sent copies on; the other kind took none
abbrev pub is_sent_on : Handling → Bool
is_sent_on SentOn = true
is_sent_on TookNone = false

-- whether the outcome is of this handling: an event at an open row is of neither
abbrev pub is_of_handling : Handling → Outcome → Bool
is_of_handling handling Open = false
is_of_handling handling NoRow = not (is_sent_on handling)
is_of_handling handling OtherVif = not (is_sent_on handling)
is_of_handling handling (Sent copies strays) = is_sent_on handling

-- whether a router has an event of this handling
abbrev pub has_event : Handling → List Event → (router : ℕ) → Bool
has_event handling events router =
    list_any (λ event. (event.router == router) && is_of_handling handling event.outcome) events

-- the routers that have an interface on one of these LANs, LAN by LAN, each once
abbrev pub routers_of_lans : Search → List ℕ → List ℕ
routers_of_lans search lans = append_new [] (flat_map (λ lan. map router_of_group (routers_on search lan))
    lans)

-- the routers of the LANs of a search
abbrev pub routers_of_search : Search → (missed : ℕ) → List ℕ
routers_of_search search missed = routers_of_lans search (lans_of_search search missed)

-- those of the routers that sent copies on
abbrev pub sent_on : List Event → List ℕ → List ℕ
sent_on events routers = filter (has_event SentOn events) routers

-- those of the others that a copy came to and that took none
abbrev pub took_none : List Event → List ℕ → List ℕ
took_none events routers =
    filter (λ router. has_event TookNone events router && not (has_event SentOn events router)) routers

-- ---- excluded routers

-- whether a line says that a router is excluded
abbrev pub is_of_excluded : SearchLine → Bool
is_of_excluded (Excluded lan router) = true
is_of_excluded _ = false

-- whether one of these lines says that a router is excluded: what that router sends isn't known
abbrev pub name_excluded_router : List SearchLine → Bool
name_excluded_router lines = list_any is_of_excluded lines

-- ---- the result of a search

-- The result of the search for a LAN that a packet missed, in whose travel there were these events: the
-- lines, and how far the packet came.
pub record IsLanSearch (search : Search) (events : List Event) (missed : ℕ)
    (found : LanSearch) : Type 0 where
  pub lines : found.lines.items ≡ search_lines search missed
  pub sent_on : found.reach.sent_on.items ≡ sent_on events (routers_of_search search missed)
  pub took_none : found.reach.took_none.items ≡ took_none events (routers_of_search search missed)
