use Rattle.std.proofs.Common.{◌≡◌, ◌++◌, flat_map}
use Rattle.mc_search.specs.LanProbe.{search_in}
use Rattle.mc_search.specs.SearchLine.{expected_lines, routers_on}
use Rattle.mc_search.proofs.lan_probe.LanProbe.add_expected_lines.Given as goal

-- the lines so far, and then those of the routers that are left, are all
abbrev pub invariant-loop-router_on_lan : goal.invariant-loop-router_on_lan
invariant-loop-router_on_lan l =
    l.lines.items ++ flat_map (expected_lines (search_in l.fn.self) l.fn.lan) l.router_on_lan-iterator
    ≡ l.fn.lines.items ++ flat_map (expected_lines (search_in l.fn.self) l.fn.lan)
    (routers_on (search_in l.fn.self) l.fn.lan)
