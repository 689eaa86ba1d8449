use Rattle.std.proofs.Common.{◌≡◌, ◌||◌, ◌&&◌, Bool, not, is_some, sym, ap, ◌∙◌, rules}
use Rattle.mc_theory.specs.Lists.{below}
use Rattle.mc_theory.specs.Findings.{first_copy_on, missed}
use Rattle.mc_forward.specs.FlightsInDomain.{net_in}
use Rattle.mc_replay.proofs.MissedLemmas.{missed-below_none, is_some-missed_below_more}
use Rattle.mc_replay.proofs.flight_finding.misses_any_lan.Goals as goal

-- Before the first LAN none is missed.
pub loop-number-init : goal.loop-number-init
loop-number-init g c = λ copies are. ap is_some (sym (missed-below_none (net_in c.args.view.now) copies))

-- The place of a LAN is empty exactly where the LAN carried no copy, so the LAN is missed exactly where it
-- wants the flow and its place is empty.
pub loop-number-preserved : goal.loop-number-preserved
loop-number-preserved g c = λ copies are.
    (let n = net_in c.args.view.now in
    let k = c.loop-number.number in
    let none : c.is_none.result ≡ not (is_some c.on.result) = search rules in
    let free : c.is_none.result ≡ not (is_some (first_copy_on copies k)) =
    none ∙ ap not (ap is_some c.on.ensures ∙ are k) in
    let wanted : c.wants.result ≡ n.wants k = c.wants.ensures.value in
    ap (λ (s : Bool). s || (c.wants.result && c.is_none.result)) (c.loop-number.invariant copies are)
    ∙ ap (λ (w : Bool). is_some (missed n copies (below k)) || (w && c.is_none.result)) wanted
    ∙ ap (λ (b : Bool). is_some (missed n copies (below k)) || (n.wants k && b)) free
    ∙ sym (is_some-missed_below_more n copies k))
