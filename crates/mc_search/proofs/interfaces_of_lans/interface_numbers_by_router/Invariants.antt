use Rattle.std.proofs.Common.{◌≡◌, ℕ, length}
use Rattle.mc_theory.specs.Lists.{below}
use Rattle.mc_search.specs.BucketsAndMarks.{AreBuckets}
use Rattle.mc_search.specs.TopologyLans.{interface_at}
use Rattle.mc_search.proofs.interfaces_of_lans.interface_numbers_by_router.Given as goal

-- each router's list has the numbers of its interfaces, of those so far
abbrev pub invariant-loop-number : goal.invariant-loop-number
invariant-loop-number l = record {
  count : length l.lists.items ≡ length l.fn.topology.routers;
  holds : AreBuckets (λ (k : ℕ). k) (λ (k : ℕ). (interface_at l.fn.topology k).router) l.lists.items
      (below l.number);
}
