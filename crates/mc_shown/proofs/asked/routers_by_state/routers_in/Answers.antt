use Rattle.std.proofs.Common.{ℕ, Bool, ◌∙◌, sym}
use Rattle.std.specs.Prelude.{slice_get}
use Rattle.mc_theory.specs.Lists.{below}
use Rattle.mc_asked.specs.Forwarding.{has_state}
use Rattle.mc_search.proofs.FilterLemmas.{filter-below_passed, filter-below_failed}
use Rattle.mc_shown.proofs.AskedLemmas.{has_state-at}
use Rattle.mc_shown.proofs.asked.routers_by_state.routers_in.Goals as goal
use Rattle.mc_shown.proofs.asked.routers_by_state.routers_in.Goals.{then-is_same_state+in_ok-push}
use Rattle.mc_shown.proofs.asked.routers_by_state.routers_in.Goals.{else-is_same_state}

-- Before the first router none is taken.
pub loop-router-init : goal.loop-router-init
unfolding below
loop-router-init c = c.new-routers.ensures.items

-- A router is taken exactly if its state is the wanted one, so the list stays that of the routers so far.
pub loop-router-preserved : goal.loop-router-preserved
loop-router-preserved c =
    let states = c.args.states.now in
    let passes : ℕ → Bool = λ r. has_state c.args.state (slice_get states r) in
    let xs = c.loop-router.routers.items in
    let n = c.loop-router.router in
    let at = has_state-at c.args.state states n _ c.loop-router-test.true in
    elim c.if-is_same_state.branch [
      | then-is_same_state+in_ok-push w ↦ rw w.routers-is (filter-below_passed passes xs
          w.push.new.self.items n c.loop-router.invariant
          (at ∙ sym c.is_same_state.ensures ∙ w.if-is_same_state.true) w.in_ok-push.ensures.items)
      | else-is_same_state w ↦ rw w.routers-is (filter-below_failed passes xs n c.loop-router.invariant
          (at ∙ sym c.is_same_state.ensures ∙ w.if-is_same_state.false))
    ]
