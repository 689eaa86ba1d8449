-- The test compares each number with the next.
use Rattle.std.proofs.Common.{rules}
use Rattle.std.specs.Prelude.{nat_lt}
use Rattle.std.proofs.lemmas.List.Sorted.{answers_always}
use Rattle.mc_tables.proofs.DistinctLemmas.{is_strictly_increasing-from_answer}
use Rattle.mc_tables.proofs.summary.distinct.is_ascending.Goals as goal

pub returns : goal.returns
returns c =
    is_strictly_increasing-from_answer c.args.numbers.now c.is_sorted_by.result
    (c.is_sorted_by.ensures.cases nat_lt (answers_always _ _ _ (λ f a r f' k. search rules)))
