use Rattle.std.proofs.Common.{map, ap, ◌∙◌}
use Rattle.std.proofs.lemmas.List.{take_all}
use Rattle.std.proofs.lemmas.Result.{IfOk-weaker}
use Rattle.mc_text.specs.Pair.{pair_number}
use Rattle.mc_asked.proofs.IndexLemmas.{is_index_of_pairs}
use Rattle.mc_asked.proofs.answers.index_of_sources.Goals as goal

-- At the end of the loop the numbers are those of all sources, and each gives its source and LAN back, so
-- that no other pair has it.
pub returns : goal.returns
returns c =
    let whole = take_all c.loop-source.source-index c.args.sources.now c.loop-source-test.false in
    IfOk-weaker c.of.result _ _ (λ index same.
    is_index_of_pairs c.args.sources.now index c.loop-source.numbers.items
    (c.loop-source.invariant.numbers ∙ ap (map pair_number) whole)
    (c.loop-source.invariant.pairs ∙ whole) same) c.of.ensures
