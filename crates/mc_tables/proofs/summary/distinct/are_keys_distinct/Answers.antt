use Rattle.std.proofs.Common.{arith, ◌≡◌, ◌∙◌, sym, ap, subst, get_or, List, ℕ}
use Rattle.std.specs.Prelude.{map}
use Rattle.std.specs.List.Sorted.{IsStrictlyIncreasing}
use Rattle.std.proofs.lemmas.List.{get_or-map, length-map}
use Rattle.mc_tables.specs.Distinct.{IsPut}
use Rattle.mc_tables.specs.UnlistedRows.{key_number}
use Rattle.mc_tables.proofs.DistinctLemmas.{are_slotted-push, are_distinct-all}
use Rattle.mc_tables.proofs.summary.distinct.are_keys_distinct.Goals as goal

-- The row's number was put into its own slot or among the others, beside those of the rows before it.
pub loop-i-preserved : goal.loop-i-preserved
loop-i-preserved c =
    let loop = c.loop-i in
    let rows = c.args.rows.now in
    let slots = c.put_in_slot.new.slots.items in
    let others = c.put_in_slot.new.others.items in
    let number : c.key_number.result ≡ get_or (map key_number rows) loop.i 0 =
    c.key_number.ensures ∙ ap key_number c.index-rows-i.is
    ∙ sym (get_or-map key_number rows loop.i c.index-rows-i.result 0 (omega arith)) in
    let put = subst (λ (n : ℕ). IsPut loop.slots.items loop.others.items n slots others) number
    (c.in_ok-put_in_slot.ensures.put c.if-not-branch.false) in
    let pushed = are_slotted-push loop.slots.items loop.others.items (map key_number rows) loop.i
    loop.invariant.slotted slots others put in
    record {
      slotted = pushed.0;
      size = pushed.1 ∙ loop.invariant.size;
      some = loop.invariant.some;
      few = loop.invariant.few;
    }

-- A number repeats neither one in a slot, whose mark would equal its
-- own, nor one of the others, which ascend once sorted.
pub returns : goal.returns
returns c = λ is.
    let loop = c.loop-i in
    let rows = c.args.rows.now in
    let sorted = c.sort_unstable.new.self.items in
    let up : IsStrictlyIncreasing sorted =
    subst (λ (l : List ℕ). IsStrictlyIncreasing l) c.deref.ensures.value (c.is_ascending.ensures is) in
    are_distinct-all loop.slots.items loop.others.items sorted (map key_number rows) loop.i
    loop.invariant.slotted (omega (arith, length-map rows key_number)) c.sort_unstable.ensures.permutation up
