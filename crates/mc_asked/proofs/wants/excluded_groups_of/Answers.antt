use Rattle.std.proofs.Common.{append-nil, sym, ◌∙◌}
use Rattle.std.proofs.lemmas.Result.{IfOk-weaker}
use Rattle.mc_asked.proofs.IndexLemmas.{is_index_of_excludes}
use Rattle.mc_asked.proofs.wants.excluded_groups_of.Goals as goal

-- At the end the numbers are the groups of all EXCLUDE records, and the index has exactly these.
pub returns : goal.returns
returns c =
    let whole = rw c.in-None.ensures.steps.0 at c.loop-group_record.invariant in
    IfOk-weaker c.of.result _ _ (λ index same.
    is_index_of_excludes c.args.records index c.loop-group_record.numbers.items
    (sym (append-nil c.loop-group_record.numbers.items) ∙ whole) same) c.of.ensures
