use Rattle.std.proofs.Common.{eqb}
use Rattle.std.proofs.lemmas.List.Filters.{dedup_is}
use Rattle.std.proofs.lemmas.Map.Keys.{IsStrictlyIncreasing-dedup}
use Rattle.mc_text.proofs.IndexLemmas.{contains-dedup_sorted}
use Rattle.mc_text.proofs.index.Index.of.Goals as goal

-- Sorted numbers without repeats ascend strictly, and each slot was marked for its number.
pub invariant_of-result : goal.invariant_of-result
invariant_of-result c =
    let left = dedup_is eqb _ _ c.dedup.ensures.filtered in
    record {
      ascending = rw left (IsStrictlyIncreasing-dedup _ c.sort_unstable.ensures.sorted);
      slots = c.in_ok-marks.ensures.some;
      marked = rw c.deref.ensures.value at c.in_ok-marks.ensures.each;
    }

-- Neither sorting nor leaving out repeats changes which numbers there are.
pub returns : goal.returns
returns c = contains-dedup_sorted _ _ _ c.sort_unstable.ensures.permutation
    (dedup_is eqb _ _ c.dedup.ensures.filtered)
