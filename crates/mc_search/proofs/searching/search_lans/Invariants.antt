use Rattle.std.proofs.Common.{◌≡◌, length, take, flat_map}
use Rattle.mc_search.specs.LanProbe.{search_in}
use Rattle.mc_search.specs.LanProbe.{IsVisitedLans}
use Rattle.mc_search.specs.SearchLine.{lines_of_lan, visited_lans}
use Rattle.mc_search.proofs.searching.search_lans.Given as goal

-- after so many steps these are the visited LANs, and the lines are those of the searched ones
abbrev pub invariant-loop-position : goal.invariant-loop-position
invariant-loop-position l = record {
  lans : l.visited_lans.lans.items ≡ visited_lans (search_in l.fn.lan_probe) l.fn.missed l.position;
  lines_so_far : l.lines_so_far.items ≡ flat_map (lines_of_lan (search_in l.fn.lan_probe))
      (take l.position (visited_lans (search_in l.fn.lan_probe) l.fn.missed l.position));
  is_visited_lans : IsVisitedLans (length l.fn.lan_probe.view.now.domain.topology.lans) l.visited_lans;
}
