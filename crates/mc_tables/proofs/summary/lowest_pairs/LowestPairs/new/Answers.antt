-- No pairs ascend, and they aren't more than 20.
use Rattle.std.proofs.Common.{ℕ, ◌≤◌, List, length, sym, subst, arith}
use Rattle.std.specs.List.Sorted.{IsStrictlySortedBy}
use Rattle.mc_tables.specs.CacheTable.{key_cmp}
use Rattle.mc_tables.proofs.summary.lowest_pairs.LowestPairs.new.Goals as goal

pub invariant_of-result : goal.invariant_of-result
unfolding IsStrictlySortedBy
invariant_of-result c =
    subst (λ (l : List (ℕ × ℕ)). IsStrictlySortedBy key_cmp l × (length l ≤ 20))
    (sym c.new.ensures.items) (tt, omega arith)
