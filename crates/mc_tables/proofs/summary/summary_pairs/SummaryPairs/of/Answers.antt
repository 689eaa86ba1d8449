-- The clone lists the same pairs, and the keys for every source have
-- the groups of those pairs, however often each repeats.
use Rattle.std.proofs.Common.{◌≡◌, ◌∙◌}
use Rattle.mc_tables.specs.Summary.{keys_for_every_source}
use Rattle.mc_tables.proofs.ListedPairLemmas.{from_list-same_groups}
use Rattle.mc_tables.proofs.summary.summary_pairs.SummaryPairs.of.Goals as goal

pub invariant_of-result : goal.invariant_of-result
invariant_of-result c =
    let made : c.deref.result.now ≡ keys_for_every_source c.args.pairs.now =
    c.deref.ensures.value ∙ c.in_ok-pairs_for_every_source.ensures in (
      c.in_ok-clone.ensures.cases,
      from_list-same_groups c.in_ok-pairs.pairs c.args.pairs.now c.deref.result.now
          c.in_ok-for_every_source.for_every_source c.in_ok-pairs.ensures made
          c.in_ok-for_every_source.ensures,
    )
