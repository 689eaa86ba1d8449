use Rattle.std.proofs.Common.{◌≡◌, length, drop}
use Rattle.std.specs.List.{filter_map}
use Rattle.mc_search.specs.LanProbe.{search_in}
use Rattle.mc_search.specs.LanProbe.{IsVisitedLans}
use Rattle.mc_search.specs.SearchLine.{append_new, next_lan}
use Rattle.mc_search.proofs.searching.add_next_lans.Given as goal

-- with the LANs of the lines that are left, the visited ones become what they are to be
abbrev pub invariant-loop-line : goal.invariant-loop-line
invariant-loop-line l = record {
  rest : append_new l.visited_lans.lans.items (filter_map (next_lan (search_in l.fn.lan_probe))
      (drop l.line-index l.fn.lines))
      ≡ append_new l.fn.visited_lans.lans.items (filter_map (next_lan (search_in l.fn.lan_probe)) l.fn.lines);
  visited_lans : IsVisitedLans (length l.fn.lan_probe.view.now.domain.topology.lans) l.visited_lans;
}
