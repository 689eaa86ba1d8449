-- The LAN and the router that a line of a search is about (docs/FORMATS.md, "The search").
use Rattle.std.specs.Prelude.{◌≡◌, ℕ, List, Option, Some, None}
use Rattle.mc_theory.specs.Lists.{In}
use Rattle.mc_search.specs.declared.search_line.SearchLine.{SearchLine}
use Rattle.mc_search.specs.declared.search_line.SearchLine.TheVariants.{Excluded}
use Rattle.mc_search.specs.declared.search_line.SearchLine.TheVariants.{NoVif, NotMulticast, NoRow}
use Rattle.mc_search.specs.declared.search_line.SearchLine.TheVariants.{Unresolved, EverySource}
use Rattle.mc_search.specs.declared.search_line.SearchLine.TheVariants.{FromUnplaced, DoesNotSend}
use Rattle.mc_search.specs.declared.search_line.SearchLine.TheVariants.{Stopped, WaitsFor}
use Rattle.mc_search.specs.declared.search_line.SearchLine.TheVariants.{ExpectedFromHere, NoRouter}
use Rattle.mc_search.specs.declared.search_line.SearchLine.TheVariants.{NoSender}

-- the LAN, and the router if the line is about one
abbrev pub lan_and_router_of : SearchLine → ℕ × Option ℕ
lan_and_router_of (Excluded lan router) = (lan, Some router)
lan_and_router_of (NoVif lan router interface) = (lan, Some router)
lan_and_router_of (NotMulticast lan router interface) = (lan, Some router)
lan_and_router_of (NoRow lan router) = (lan, Some router)
lan_and_router_of (Unresolved lan router) = (lan, Some router)
lan_and_router_of (EverySource lan router) = (lan, Some router)
lan_and_router_of (FromUnplaced lan router) = (lan, Some router)
lan_and_router_of (DoesNotSend lan router vif from carried) = (lan, Some router)
lan_and_router_of (Stopped lan router vif threshold ttl) = (lan, Some router)
lan_and_router_of (WaitsFor lan router vif from) = (lan, Some router)
lan_and_router_of (ExpectedFromHere lan router) = (lan, Some router)
lan_and_router_of (NoRouter lan) = (lan, None)
lan_and_router_of (NoSender lan) = (lan, None)

-- One of these lines is about this router on this LAN.
abbrev pub NamesRouter : (lan router : ℕ) → List SearchLine → Type 0
NamesRouter lan router lines =
    (line : SearchLine) × (In line lines × (lan_and_router_of line ≡ (lan, Some router)))
