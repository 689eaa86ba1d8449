use Rattle.std.proofs.Common.{arith}
use Rattle.std.proofs.lemmas.Bool.Decides.{nat_tests}
use Rattle.mc_filter.proofs.FilterLemmas.{filter_tests}
use Rattle.mc_filter.proofs.filter_builder.FilterBuilder.add.Goals as goal

-- A record that isn't of type INCLUDE was merged into the filter, so that the filter wants what it and
-- the record wanted, and one record less is left.
pub returns-in_ok-merge-in_default : goal.returns-in_ok-merge-in_default
returns-in_ok-merge-in_default c = λ records left h.
    let merged = c.in_ok-merge-in_default.ensures in
    record {
      excludes = grind (arith, nat_tests, filter_tests, merged.mode, h.excludes);
      wants = λ s. grind (arith, nat_tests, filter_tests, merged.admits s, h.wants s);
    }
