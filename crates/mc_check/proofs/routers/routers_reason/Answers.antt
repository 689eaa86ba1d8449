use Rattle.std.proofs.Common.{ℕ, Option, sym, arith}
use Rattle.mc_theory.specs.Reasons.{Reason, row_reason}
use Rattle.mc_forward.specs.FlightsInDomain.{net_in}
use Rattle.mc_check.proofs.BelowLemmas.{first_of-below_none, first_of-none_more, first_of-found_at}
use Rattle.mc_check.proofs.routers.routers_reason.Goals as goal

-- Before the first router there is none that could be wrong.
pub loop-number-init : goal.loop-number-init
loop-number-init c = record {
  reasons = first_of-below_none _;
  lans = c.requires.lans;
  fed = c.requires.fed;
}

-- No router with a lower number is wrong, so the one that is found is the first.
pub returns-in-Some-clause-reason : goal.returns-in-Some-clause-reason
returns-in-Some-clause-reason c =
    let n = net_in c.args.view.now in
    let f : ℕ → Option Reason = λ r. row_reason n c.args.by_lan.now r (n.row r) in
    sym (first_of-found_at f c.loop-number.number _ _ c.loop-number.invariant.reasons
    (sym c.in-Some.ensures.reason)
    (omega (arith, c.routers-number-end.ensures.count)))

-- A router that is right adds no reason.
pub loop-number-preserved : goal.loop-number-preserved
loop-number-preserved c =
    let n = net_in c.args.view.now in
    let f : ℕ → Option Reason = λ r. row_reason n c.args.by_lan.now r (n.row r) in
    record {
      reasons = first_of-none_more f c.loop-number.number c.loop-number.invariant.reasons
          (sym c.in_default.ensures.reason);
      lans = c.in_default.ensures.lans;
      fed = c.in_default.ensures.fed;
    }
