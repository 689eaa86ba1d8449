use Rattle.std.proofs.Common.{◌≡◌, ℕ, List, ◌++◌, length, take}
use Rattle.mc_forward.specs.ListedTables.{facts}
use Rattle.mc_search.specs.BucketsAndMarks.{AreInterfacesByLan}
use Rattle.mc_search.proofs.interfaces_of_lans.add_interfaces.Given as goal

-- each LAN's list has its interfaces of the earlier ones, and then of those so far
abbrev pub invariant-loop-number : goal.invariant-loop-number
invariant-loop-number l = record {
  count : length l.lists.items ≡ length l.fn.domain.topology.lans;
  holds : (earlier : List ℕ) →
      AreInterfacesByLan (facts l.fn.domain) l.fn.lists.items earlier →
      AreInterfacesByLan (facts l.fn.domain) l.lists.items (earlier ++ take l.number-index l.fn.numbers);
}
