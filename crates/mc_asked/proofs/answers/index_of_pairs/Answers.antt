use Rattle.std.proofs.lemmas.Result.{IfOk-weaker}
use Rattle.mc_asked.proofs.IndexLemmas.{is_index_of_pairs}
use Rattle.mc_asked.proofs.answers.index_of_pairs.Goals as goal

-- The index has the numbers of the pairs and nothing else. Each of these numbers gives its pair back, so
-- that no other pair has it.
pub returns : goal.returns
returns c = IfOk-weaker c.of.result _ _ (λ index same.
    is_index_of_pairs c.args.pairs.now index c.in_ok-numbers.numbers.items c.in_ok-numbers.ensures.numbers
    c.in_ok-numbers.ensures.pairs same) c.of.ensures
