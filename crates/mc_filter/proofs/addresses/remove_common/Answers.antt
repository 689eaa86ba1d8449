use Rattle.std.proofs.Common.{not, rules}
use Rattle.std.proofs.lemmas.Fn.{filter_same}
use Rattle.mc_filter.specs.SourceFilter.{has}
use Rattle.mc_filter.proofs.AscendingLemmas.{filter-ascending}
use Rattle.mc_filter.proofs.addresses.remove_common.Goals as goal

-- Taking addresses out of an ascending list leaves it ascending, and an address stays in it exactly if
-- it was there and passes the test, which is that the other list hasn't got it.
pub returns : goal.returns
returns c =
    let left = filter-ascending (λ x. not (has c.args.others.now x)) _ _ c.requires.ascending
    (filter_same _ _ _ (λ x b f' k. search rules) _ _ c.retain.ensures.filtered) in
    record { ascending = left.0; kept = left.1 }
