use Rattle.std.proofs.Common.{◌≡◌, ℕ, ◌<◌, List, length, map}
use Rattle.mc_theory.specs.Lists.{In}
use Rattle.mc_search.specs.declared.listed_interface.ListedInterface.{ListedInterface}
use Rattle.mc_search.specs.LanProbe.{search_in}
use Rattle.mc_search.specs.BucketsAndMarks.{AreMarksOfListed}
use Rattle.mc_search.specs.SearchLine.{append_new, router_of_group, routers_on}
use Rattle.mc_search.proofs.reach.add_routers.Given as goal

-- with the routers that are left, the list becomes what it is to be; the marks say which routers it has
abbrev pub invariant-loop-router_on_lan : goal.invariant-loop-router_on_lan
invariant-loop-router_on_lan l = record {
  count : length l.listed ≡ length l.fn.listed;
  rest : append_new l.routers.items (map router_of_group l.router_on_lan-iterator)
      ≡ append_new l.fn.routers.items
      (map router_of_group (routers_on (search_in l.fn.lan_probe) l.fn.lan));
  listed : AreMarksOfListed l.routers.items l.listed;
  inside : (g : ℕ × List ListedInterface) → In g l.router_on_lan-iterator → g.0 < length l.fn.listed;
}
