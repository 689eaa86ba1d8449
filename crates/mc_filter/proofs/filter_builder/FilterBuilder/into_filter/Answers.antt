use Rattle.std.proofs.Common.{arith}
use Rattle.mc_filter.proofs.FilterLemmas.{filter_tests}
use Rattle.mc_filter.proofs.MergedLemmas.{Merges-iff}
use Rattle.mc_filter.proofs.filter_builder.FilterBuilder.into_filter.Goals as goal

-- With no record left, the filter and the included sources together want what all records want; with
-- those sources merged in, the filter wants it by itself.
pub returns : goal.returns
returns c = λ records group h. record {
  ascending = c.merge_list.ensures.ascending;
  merged = (Merges-iff _ _ records group).0 (record {
    excludes = grind (arith, h.excludes, filter_tests);
    admitted = λ s. grind (arith, h.wants s, c.in_ok-merge_list.ensures.admits s);
  });
}
