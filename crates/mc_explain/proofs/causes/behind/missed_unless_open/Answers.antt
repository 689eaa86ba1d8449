-- No router is excluded and none has an open row, so the LANs without a copy are called missed.
use Rattle.std.proofs.Common.{◌≡◌, ℕ, List, subst, sym, ◌∙◌}
use Rattle.std.specs.Prelude.{IfOk}
use Rattle.mc_forward.specs.FlightsInDomain.{net_in}
use Rattle.mc_explain.specs.Behind.{missed_lans}
use Rattle.mc_explain.proofs.BehindLemmas.{missed_unless_open-known}
use Rattle.mc_explain.proofs.causes.behind.missed_unless_open.Goals as goal

pub returns : goal.returns
returns c = λ copies are.
    (let view = c.args.view.now in
    subst (λ (xs : List ℕ). IfOk c.lans_without_copy.result (λ lans. lans.items ≡ xs))
    (missed_unless_open-known c.args.whole c.args.open_routers.now
    (missed_lans view.domain.topology (net_in view) copies) c.if-not-whole.false
    (sym c.is_empty.ensures ∙ c.if-not-is_empty.false)) (c.lans_without_copy.ensures copies are))
