use Rattle.std.proofs.Common.{◌≡◌, ℕ, ◌∙◌, Bool, List, ap, arith, filter, length, sym}
use Rattle.mc_theory.specs.Lists.{below}
use Rattle.mc_theory.specs.Flights.{Copy}
use Rattle.mc_forward.specs.FlightsInDomain.{net_in}
use Rattle.mc_explain.specs.Behind.{is_missed}
use Rattle.mc_search.proofs.FilterLemmas.{filter-below_passed, filter-below_failed}
use Rattle.mc_explain.proofs.causes.behind.lans_without_copy.Goals as goal
use Rattle.mc_explain.proofs.causes.behind.lans_without_copy.Goals.{then-is_missed+in_ok-push}
use Rattle.mc_explain.proofs.causes.behind.lans_without_copy.Goals.{else-is_missed}

-- Before the first LAN none is taken.
pub loop-number-init : goal.loop-number-init
unfolding below
loop-number-init c = λ copies are. c.new-lans.ensures.items

-- A LAN is taken exactly if it wants the flow and its place is empty: if it carried no copy.
pub loop-number-preserved : goal.loop-number-preserved
loop-number-preserved c =
    let test : List Copy → ℕ → Bool = λ copies. is_missed (net_in c.args.view.now) copies in
    let xs = c.loop-number.lans.items in
    let n = c.loop-number.number in
    elim c.if-is_missed.branch [
      | then-is_missed+in_ok-push w ↦ rw w.lans-is (λ copies are.
          filter-below_passed (test copies) xs w.push.new.self.items n (c.loop-number.invariant copies are)
          (sym (c.is_missed.ensures copies are) ∙ w.if-is_missed.true) w.in_ok-push.ensures.items)
      | else-is_missed w ↦ rw w.lans-is (λ copies are.
          filter-below_failed (test copies) xs n (c.loop-number.invariant copies are)
          (sym (c.is_missed.ensures copies are) ∙ w.if-is_missed.false))
    ]

-- All LANs are done.
pub returns : goal.returns
returns c = λ copies are.
    (let all : c.loop-number.number ≡ length c.args.view.now.domain.topology.lans =
    omega (arith, c.lans-number-end.ensures.count) in
    c.loop-number.invariant copies are
    ∙ ap (λ (n : ℕ). filter (is_missed (net_in c.args.view.now) copies) (below n)) all)
