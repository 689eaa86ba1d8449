-- A search (SearchLine), as the values that the code keeps for it, and the LANs that it has visited.
use Rattle.std.specs.Prelude.{◌≡◌, ℕ, length}
use Rattle.mc_forward.specs.ListedTables.{facts}
use Rattle.mc_forward.specs.PerLan.{item_on_lan, HoldsFirstOfEachKey}
use Rattle.mc_search.specs.declared.lan_probe.LanProbe.{LanProbe}
use Rattle.mc_search.specs.TopologyLans.{interfaces_on_lans}
use Rattle.mc_search.specs.SearchLine.{Search}
use Rattle.mc_search.specs.declared.visited_lans.VisitedLans.{VisitedLans}

-- the search that these values are of
abbrev pub search_in : LanProbe → Search
search_in probe = record {
  domain = facts probe.view.now.domain;
  flow = probe.view.now.flow;
  summary = probe.summary.now;
  excluded = probe.excluded.now;
  first_copy_on = item_on_lan probe.first_copies.now.by_lan;
}

-- The interfaces that are kept are those that the topology has on each LAN.
pub record IsLanProbe (probe : LanProbe) : Type 0 where
  pub interfaces : probe.interfaces.now ≡ interfaces_on_lans (facts probe.view.now.domain)

-- ---- the LANs that a search has visited

-- Of so many LANs exactly the visited ones are marked.
pub record IsVisitedLans (lans : ℕ) (visited : VisitedLans) : Type 0 where
  pub count : length visited.marks ≡ lans
  pub marked : HoldsFirstOfEachKey (λ lan. lan) visited.marks visited.lans.items
