use Rattle.std.proofs.Common.{ℕ, ◌∙◌, Bool, List, sym}
use Rattle.mc_theory.specs.Lists.{below}
use Rattle.mc_theory.specs.Flights.{Copy}
use Rattle.mc_forward.specs.ListedTables.{facts}
use Rattle.mc_shown.specs.WantedText.{is_also_missed}
use Rattle.mc_search.proofs.FilterLemmas.{filter-below_passed, filter-below_failed}
use Rattle.mc_shown.proofs.wanted.unmarked_lans.Goals as goal
use Rattle.mc_shown.proofs.wanted.unmarked_lans.Goals.{then-is_wanted_and_unmarked+in_ok-push}
use Rattle.mc_shown.proofs.wanted.unmarked_lans.Goals.{else-is_wanted_and_unmarked}

-- Before the first LAN none is taken.
pub loop-number-init : goal.loop-number-init
unfolding below
loop-number-init c = λ copies marked. c.new-lans.ensures.items

-- A LAN is taken exactly if it wants the flow, has no mark, which says that it carried no copy, and isn't
-- the one that is reported already.
pub loop-number-preserved : goal.loop-number-preserved
loop-number-preserved c =
    let view = c.args.view.now in
    let also_missed : List Copy → ℕ → Bool =
    λ copies. is_also_missed (facts view.domain) view.flow copies c.args.missed in
    let xs = c.loop-number.lans.items in
    let n = c.loop-number.number in
    elim c.if-is_wanted_and_unmarked.branch [
      | then-is_wanted_and_unmarked+in_ok-push w ↦ rw w.lans-is (λ copies marked.
          filter-below_passed (also_missed copies) xs w.push.new.self.items n
          (c.loop-number.invariant copies marked)
          (sym (c.is_wanted_and_unmarked.ensures.marked copies marked) ∙ w.if-is_wanted_and_unmarked.true)
          w.in_ok-push.ensures.items)
      | else-is_wanted_and_unmarked w ↦ rw w.lans-is (λ copies marked.
          filter-below_failed (also_missed copies) xs n (c.loop-number.invariant copies marked)
          (sym (c.is_wanted_and_unmarked.ensures.marked copies marked) ∙ w.if-is_wanted_and_unmarked.false))
    ]
