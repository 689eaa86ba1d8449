use Rattle.std.proofs.Common.{◌∙◌, sym}
use Rattle.mc_theory.specs.Lists.{below}
use Rattle.mc_search.specs.SearchLine.{is_excluded}
use Rattle.mc_search.proofs.FilterLemmas.{filter-below_passed, filter-below_failed}
use Rattle.mc_shown.proofs.excluded.list_excluded_routers.Goals as goal
use Rattle.mc_shown.proofs.excluded.list_excluded_routers.Goals.{then-is_excluded+in_ok-push}
use Rattle.mc_shown.proofs.excluded.list_excluded_routers.Goals.{else-is_excluded}

-- Before the first router none is taken.
pub loop-number-init : goal.loop-number-init
unfolding below
loop-number-init c = c.new-routers.ensures.items

-- A router is taken exactly if it is marked, so the list stays that of the routers so far.
pub loop-number-preserved : goal.loop-number-preserved
loop-number-preserved c =
    let marked = is_excluded c.args.excluded.now in
    let xs = c.loop-number.routers.items in
    let n = c.loop-number.number in
    elim c.if-is_excluded.branch [
      | then-is_excluded+in_ok-push w ↦ rw w.routers-is (filter-below_passed marked xs
          w.push.new.self.items n c.loop-number.invariant
          (sym c.is_excluded.ensures ∙ w.if-is_excluded.true) w.in_ok-push.ensures.items)
      | else-is_excluded w ↦ rw w.routers-is (filter-below_failed marked xs n c.loop-number.invariant
          (sym c.is_excluded.ensures ∙ w.if-is_excluded.false))
    ]
