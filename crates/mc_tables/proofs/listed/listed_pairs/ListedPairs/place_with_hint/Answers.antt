use Rattle.std.proofs.Common.{ℕ, List, subst}
use Rattle.std.specs.List.{IsDistinct}
use Rattle.mc_tables.specs.CacheTable.{same_key}
use Rattle.mc_tables.proofs.ListedPairLemmas.{if_none-missing_pair, pair_of-increasing_distinct}
use Rattle.mc_tables.proofs.listed.listed_pairs.ListedPairs.place_with_hint.Goals as goal

-- A pair whose number isn't indexed isn't listed.
pub returns-clause-none : goal.returns-clause-none
returns-clause-none c =
    rw (← c.self.view_is)
    (if_none-missing_pair c.self.inside.index.value c.pair_number.result c.args.key.now
    c.place_with_hint.result
    c.pair_number.ensures.pair (rw c.deref.ensures at c.place_with_hint.ensures.none))

-- Indexed numbers ascend, so that they differ, and so do their pairs.
pub returns-clause-distinct : goal.returns-clause-distinct
returns-clause-distinct c =
    subst (λ (keys : List (ℕ × ℕ)). IsDistinct same_key keys) c.self.view_is
    (pair_of-increasing_distinct c.self.inside.index.value
    (rw c.deref.ensures at c.place_with_hint.ensures.ascending))
