use Rattle.std.proofs.Common.{◌≡◌, true, false, is_some, sym, ap, ◌∙◌, arith, length}
use Rattle.mc_text.proofs.StepLemmas.{None-from_is_some_false}
use Rattle.mc_theory.specs.Lists.{below}
use Rattle.mc_theory.specs.Findings.{first_copy_on, missed}
use Rattle.mc_forward.specs.FlightsInDomain.{net_in}
use Rattle.mc_forward.proofs.PerLanLemmas.{first_with_key-first_copy_on}
use Rattle.mc_replay.proofs.MissedLemmas.{missed-below_none, missed-below_more_unwanting}
use Rattle.mc_replay.proofs.MissedLemmas.{missed-below_more_with_copy, missed-first_wanting}
use Rattle.mc_replay.proofs.flight_finding.missed.Goals as goal
use Rattle.mc_replay.proofs.flight_finding.missed.Goals.{else-wants-via-then-wants+else-is_none}
use Rattle.mc_replay.proofs.flight_finding.missed.Goals.{else-wants-via-else-wants}

-- Before the first LAN none is missed.
pub loop-number-init : goal.loop-number-init
loop-number-init c = λ copies are. missed-below_none (net_in c.args.view.now) copies

-- This LAN wants the flow and carried no copy, and no lower one is missed: it is the lowest.
pub returns-then-is_none : goal.returns-then-is_none
returns-then-is_none c = λ copies are.
    (let n = net_in c.args.view.now in
    let k = c.loop-number.number in
    let w : n.wants k ≡ true = cc in
    let none : is_some c.on.result ≡ false = grind arith in
    let b : is_some (first_copy_on copies k) ≡ false = ap is_some
    (sym (are k ∙ first_with_key-first_copy_on copies k))
    ∙ (ap is_some (sym c.on.ensures) ∙ none) in
    sym (missed-first_wanting n copies k _ (c.loop-number.invariant copies are) w b
    (omega (arith, c.lans-number-end.ensures.count))))

-- A LAN that carried a copy isn't missed, nor is one that doesn't want the flow.
pub loop-number-preserved : goal.loop-number-preserved
loop-number-preserved c = λ copies are.
    (let n = net_in c.args.view.now in
    let k = c.loop-number.number in
    elim c.else-wants.branch [
      | else-wants-via-then-wants+else-is_none w ↦ (
          let some : is_some w.on.result ≡ true = w.if-is_none.ensures in
          let b : is_some (first_copy_on copies k) ≡ true = ap is_some
          (sym (are k ∙ first_with_key-first_copy_on copies k))
          ∙ (ap is_some (sym w.on.ensures) ∙ some) in
          missed-below_more_with_copy n copies k (c.loop-number.invariant copies are) b)
      | else-wants-via-else-wants w ↦ (let b : n.wants k ≡ false =
          cc in missed-below_more_unwanting n copies k (c.loop-number.invariant copies are) b)
    ])

-- Where no LAN is missed, there is no lowest one.
pub returns-then-not-misses_any_lan : goal.returns-then-not-misses_any_lan
returns-then-not-misses_any_lan c = λ copies are.
    (let none = c.misses_any_lan.ensures copies
    (λ lan. ap is_some (are lan ∙ first_with_key-first_copy_on copies lan)) in
    sym (None-from_is_some_false (missed (net_in c.args.view.now) copies
    (below (length c.args.view.now.domain.topology.lans)))
    (sym none ∙ c.if-not-misses_any_lan.true)))
