use Rattle.std.proofs.Common.{◌≡◌}
use Rattle.std.specs.List.{list_any}
use Rattle.mc_search.specs.LanProbe.{search_in}
use Rattle.mc_search.specs.SearchLine.{may_send_here, routers_on}
use Rattle.mc_search.proofs.lan_probe.LanProbe.has_possible_sender.Given as goal

-- no router so far may send onto the LAN, so one does exactly if one that is left does
abbrev pub invariant-loop-router_on_lan : goal.invariant-loop-router_on_lan
invariant-loop-router_on_lan l = list_any (may_send_here (search_in l.fn.self)) l.router_on_lan-iterator
    ≡ list_any (may_send_here (search_in l.fn.self)) (routers_on (search_in l.fn.self) l.fn.lan)
