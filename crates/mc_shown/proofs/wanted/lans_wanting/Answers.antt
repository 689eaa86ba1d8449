use Rattle.std.proofs.Common.{◌∙◌, sym}
use Rattle.mc_theory.specs.Lists.{below}
use Rattle.mc_forward.specs.Domains.{wants_of}
use Rattle.mc_search.proofs.FilterLemmas.{filter-below_passed, filter-below_failed}
use Rattle.mc_shown.proofs.wanted.lans_wanting.Goals as goal
use Rattle.mc_shown.proofs.wanted.lans_wanting.Goals.{then-wants+in_ok-push, else-wants}

-- Before the first LAN none is taken.
pub loop-number-init : goal.loop-number-init
unfolding below
loop-number-init c = c.new-lans.ensures.items

-- A LAN is taken exactly if it wants the flow, so the list stays that of the LANs so far.
pub loop-number-preserved : goal.loop-number-preserved
loop-number-preserved c =
    let wants = wants_of c.args.view.now.domain c.args.view.now.flow in
    let xs = c.loop-number.lans.items in
    let n = c.loop-number.number in
    elim c.if-wants.branch [
      | then-wants+in_ok-push w ↦ rw w.lans-is (filter-below_passed wants xs w.push.new.self.items n
          c.loop-number.invariant (sym c.wants.ensures.value ∙ w.if-wants.true)
          w.in_ok-push.ensures.items)
      | else-wants w ↦ rw w.lans-is (filter-below_failed wants xs n c.loop-number.invariant
          (sym c.wants.ensures.value ∙ w.if-wants.false))
    ]
