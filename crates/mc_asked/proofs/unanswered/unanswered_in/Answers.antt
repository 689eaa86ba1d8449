use Rattle.std.proofs.Common.{ℕ, ◌++◌, List, filter, flat_map, map, not, sym, ap, ◌∙◌}
use Rattle.std.proofs.lemmas.List.Elements.{filter-append}
use Rattle.mc_text.specs.Pair.{pair_of}
use Rattle.mc_igmp.specs.declared.record.Record.{Record}
use Rattle.mc_tables.specs.Summary.{in_order}
use Rattle.mc_asked.specs.Answers.{is_answered}
use Rattle.mc_asked.specs.ListWants.{asked_by}
use Rattle.mc_asked.proofs.SameRecordLemmas.{in_order-same_asked}
use Rattle.mc_asked.proofs.unanswered.unanswered_in.Goals as goal

-- Before the first record nothing is taken, and the distinct records ask for what all do.
pub loop-group_record-init : goal.loop-group_record-init
loop-group_record-init c = λ index.
    rw (c.none-unanswered.ensures, c.into_iter-group_record-iterator.ensures.into_iter_gives)
    (in_order-same_asked (λ (want : ℕ × ℕ). not (is_answered c.args.answers.now c.args.list.now want))
    c.distinct_records-group_record-items.result c.args.list.now
    c.distinct_records-group_record-items.ensures)

-- The record's unanswered wants are taken, and they were the first of those to come.
pub loop-group_record-preserved : goal.loop-group_record-preserved
loop-group_record-preserved c = λ index.
    let list = c.args.list.now in
    let test = λ (want : ℕ × ℕ). not (is_answered c.args.answers.now list want) in
    let r = c.in-Some.group_record in
    let rest : List Record = c.next.new.self in
    let old = map pair_of c.loop-group_record.unanswered in
    let more = filter test (flat_map asked_by rest) in
    c.in_ok-push_unanswered.ensures list index more
    ∙ ap (λ (l : List (ℕ × ℕ)). in_order (old ++ l))
    (sym (filter-append test (asked_by r) (flat_map asked_by rest))
    ∙ ap (λ (l : List Record). filter test (flat_map asked_by l)) (sym c.in-Some.ensures.steps))
    ∙ c.loop-group_record.invariant index
