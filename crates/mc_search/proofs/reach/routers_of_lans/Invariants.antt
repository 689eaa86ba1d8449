use Rattle.std.proofs.Common.{◌≡◌, length, take}
use Rattle.mc_search.specs.LanProbe.{search_in}
use Rattle.mc_search.specs.BucketsAndMarks.{AreMarksOfListed}
use Rattle.mc_search.specs.SearchReach.{routers_of_lans}
use Rattle.mc_search.proofs.reach.routers_of_lans.Given as goal

-- the list has the routers on the LANs so far, and the marks say which these are
abbrev pub invariant-loop-lan : goal.invariant-loop-lan
invariant-loop-lan l = record {
  count : length l.listed.items ≡ length l.fn.lan_probe.view.now.domain.topology.routers;
  routers : l.routers.items ≡ routers_of_lans (search_in l.fn.lan_probe) (take l.lan-index l.fn.lans);
  listed : AreMarksOfListed l.routers.items l.listed.items;
}
