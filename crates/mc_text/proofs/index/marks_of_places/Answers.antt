use Rattle.std.proofs.Common.{◌∙◌, ℕ, subst, sym, arith}
use Rattle.std.proofs.lemmas.List.{length-set}
use Rattle.mc_text.proofs.IndexLemmas.{AreMarkedInSlots, marked_in_slots_all, marked_in_slots_more}
use Rattle.mc_text.proofs.index.marks_of_places.Goals as goal

-- The mark that is written is never 0, so that no slot loses its mark when another number shares it.
pub loop-place-preserved : goal.loop-place-preserved
loop-place-preserved c = record {
  counted = length-set c.loop-place.marks.items c.index_slot.result c.mark_of_place.result
      ∙ c.loop-place.invariant.counted;
  marked = marked_in_slots_more c.slots_for-slots.result c.loop-place.marks.items c.args.numbers.now
      c.loop-place.place c.mark_of_place.result c.index_slot.result 0 c.loop-place.invariant.marked
      (omega (arith, c.loop-place-test.true, c.loop-place.auto.place-end)) c.index_slot.ensures.value
      (omega (arith, c.index_slot.ensures.within, c.loop-place.invariant.counted)) c.mark_of_place.ensures;
}

-- After the last place each number's slot is marked, and the slots are as many as at first.
pub returns-clause-each : goal.returns-clause-each
returns-clause-each c =
    subst (λ (slots : ℕ). AreMarkedInSlots slots c.loop-place.marks.items c.args.numbers.now)
    (sym c.loop-place.invariant.counted)
    (marked_in_slots_all c.slots_for-slots.result c.loop-place.marks.items c.args.numbers.now
    c.loop-place.place (omega (arith, c.loop-place-test.false, c.loop-place.auto.place-end))
    c.loop-place.invariant.marked)
