-- A mark of either kind says whether a router has an event of that kind; the routers that took none are
-- those with such an event whose mark no event of a sent copy takes away.
use Rattle.std.proofs.Common.{◌&&◌, ◌∙◌, ℕ, Bool, List, ap, false, arith, drop, length, not, subst, sym}
use Rattle.std.specs.Prelude.{slice_index_or}
use Rattle.std.proofs.lemmas.List.{take_at}
use Rattle.mc_search.specs.BucketsAndMarks.{AreMarksOf}
use Rattle.mc_search.specs.SearchReach.{has_event}
use Rattle.mc_search.specs.declared.reach.Handling.TheVariants.{SentOn, TookNone}
use Rattle.mc_search.proofs.FilterLemmas.{slice_index_or-replicate_false}
use Rattle.mc_search.proofs.ReachLemmas.{are_marks_of-has_event, are_marks_of-took_none}
use Rattle.mc_search.proofs.reach.reach_among.Goals as goal

pub returns-clause-sent_on : goal.returns-clause-sent_on
returns-clause-sent_on c =
    let events = c.args.events.now in
    let none = c.in_ok-sent_on.sent_on in
    let marks = c.mark_routers.new.marks in
    let whole = take_at marks (drop (length marks) none.items) none.len
    (omega (arith, c.mark_routers.ensures.count, c.deref_mut.ensures.len)) in
    let are = are_marks_of-has_event events SentOn c.deref_mut.result.now marks c.mark_routers.ensures.count
    (λ r. ap (λ (ms : List Bool). slice_index_or ms r false) (c.deref_mut.ensures.value
    ∙ c.in_ok-sent_on.ensures) ∙ slice_index_or-replicate_false c.args.count r)
    c.mark_routers.ensures.marks in
    c.in_ok-marked_routers.ensures.marked (has_event SentOn events)
    (subst (AreMarksOf (has_event SentOn events)) (sym (c.deref.ensures.value ∙ whole)) are)

pub returns-clause-took_none : goal.returns-clause-took_none
returns-clause-took_none c =
    let events = c.args.events.now in
    let none = c.in_ok-took_none.took_none in
    let took_none = λ (r : ℕ). has_event TookNone events r && not (has_event SentOn events r) in
    let first = c.mark_routers-2.new.marks in
    let marks = c.unmark_senders.new.marks in
    let before = c.deref_mut-3.result.now in
    let whole_first = take_at first (drop (length first) none.items) none.len
    (omega (arith, c.mark_routers-2.ensures.count, c.deref_mut-2.ensures.len)) in
    let are_first = are_marks_of-has_event events TookNone c.deref_mut-2.result.now first
    c.mark_routers-2.ensures.count
    (λ r. ap (λ (ms : List Bool). slice_index_or ms r false) (c.deref_mut-2.ensures.value
    ∙ c.in_ok-took_none.ensures) ∙ slice_index_or-replicate_false c.args.count r)
    c.mark_routers-2.ensures.marks in
    let are = are_marks_of-took_none events before marks c.unmark_senders.ensures.count
    (subst (AreMarksOf (has_event TookNone events)) (sym (c.deref_mut-3.ensures.value ∙ whole_first))
    are_first) c.unmark_senders.ensures.marks in
    c.in_ok-marked_routers-2.ensures.marked took_none (subst (AreMarksOf took_none)
    (sym (c.deref-2.ensures.value ∙ take_at marks _ none.len
    (omega (arith, c.unmark_senders.ensures.count, c.deref_mut-3.ensures.len)))) are)
