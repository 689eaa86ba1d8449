use Rattle.std.proofs.Common.{◌≡◌, ◌<◌, ℕ, List, length, get_or, arith, ap, subst, sym, ◌∙◌}
use Rattle.std.specs.List.{Contains}
use Rattle.std.proofs.lemmas.List.{get_or_default}
use Rattle.mc_text.specs.Index.{index_slot}
use Rattle.mc_text.proofs.IndexLemmas.{contains-not_found, contains-unmarked_slot}
use Rattle.mc_text.proofs.index.Index.place_of.Goals as goal

-- The slot of each number is marked, so that a number whose slot has no mark isn't there.
pub returns-then-mark-eq0-clause-none : goal.returns-then-mark-eq0-clause-none
returns-then-mark-eq0-clause-none c =
    let marks = c.self.inside.marks.items in
    let slot : c.index_slot.result ≡ index_slot (length marks) c.args.number =
    grind (arith, c.index_slot.ensures.value, c.len.ensures) in
    let within : c.index_slot.result < length marks =
    grind (arith, c.index_slot.ensures.within, c.len.ensures) in
    let empty : get_or marks (index_slot (length marks) c.args.number) 0 ≡ 0 =
    ap (λ k. get_or marks k 0) (sym slot)
    ∙ get_or_default marks c.index_slot.result 0 c.index-mark.result.now within
    ∙ sym c.index-mark.ensures ∙ c.if-mark-eq0.true in
    subst (λ (ns : List ℕ). ¬ Contains ns c.args.number) c.self.view_is
    (contains-unmarked_slot (length marks) marks c.self.inside.numbers.items c.args.number
    c.self.invariant.marked empty)

-- The numbers ascend, so that a binary search finds any that is there.
pub returns-clause-none : goal.returns-clause-none
returns-clause-none c =
    rw (← c.self.view_is)
    (contains-not_found c.self.inside.numbers.items c.args.number c.binary_search.result c.ok.result
    c.self.invariant.ascending
    (rw c.deref.ensures.value at c.binary_search.ensures.position) c.ok.ensures.value)
