use Rattle.std.proofs.Common.{eqb}
use Rattle.std.proofs.lemmas.List.Filters.{dedup_is}
use Rattle.std.proofs.lemmas.Map.Keys.{IsStrictlyIncreasing-dedup}
use Rattle.mc_filter.proofs.AscendingLemmas.{has-dedup_sorted}
use Rattle.mc_filter.proofs.addresses.sort_and_dedup.Goals as goal

-- Sorting only permutes, and in a sorted list equal addresses are neighbours, so that taking out each
-- repeated neighbour leaves every address once.
pub returns : goal.returns
returns c =
    let left = dedup_is eqb _ _ c.dedup.ensures.filtered in
    record {
      ascending = rw left (IsStrictlyIncreasing-dedup _ c.sort_unstable.ensures.sorted);
      same = has-dedup_sorted _ _ _ c.sort_unstable.ensures.permutation left;
    }
