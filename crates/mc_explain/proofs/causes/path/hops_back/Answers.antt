-- The sender that is kept for the LAN from which the hop takes is that of the LAN's first copy, with which
-- the walk back goes on.
use Rattle.std.proofs.Common.{◌≡◌, ℕ, ◌+◌, ◌++◌, length, drop, Some, ap, sym, subst, ◌∙◌}
use Rattle.std.specs.Prelude.{option_and_then}
use Rattle.mc_theory.specs.Flights.{Copy}
use Rattle.mc_theory.specs.Paths.{Hop}
use Rattle.mc_theory.specs.Hops.{hop_sent, hops_back}
use Rattle.mc_forward.specs.FlightsInDomain.{net_in}
use Rattle.mc_forward.specs.PerLan.{item_on_lan}
use Rattle.mc_explain.proofs.BackLemmas.{hops_back-more_pushed}
use Rattle.mc_explain.proofs.causes.path.hops_back.Goals as goal

pub loop-step-preserved : goal.loop-step-preserved
loop-step-preserved c =
    let n = net_in c.args.view.now in
    let cs = c.args.copies.now in
    let first_copies = c.args.first_copies.now.by_lan in
    let h = c.in-Some.hop in
    let next = c.sender_on-sender.result in
    let now = c.push.new.self.items in
    let i = c.loop-step._step-index in
    let all = hops_back n cs (length cs) c.args.copy.now.lan c.args.copy.now.sender in
    let from : c.hop.inside.from ≡ h.from = ap (λ (g : Hop). g.from) c.hop.view_is in
    let sent : hop_sent n c.loop-step.sender c.loop-step.onto ≡ Some h =
    sym c.hop_sent.ensures ∙ c.in-Some.is in
    let sender : next ≡ option_and_then (λ (x : Copy). x.sender) (item_on_lan first_copies h.from) =
    c.sender_on-sender.ensures ∙
    ap (λ (l : ℕ). option_and_then (λ (x : Copy). x.sender) (item_on_lan first_copies l)) from in
    subst (λ (l : ℕ). now ++ hops_back n cs (length (drop (i + 1) cs)) l next ≡ all) (sym from)
    (hops_back-more_pushed n first_copies cs i c.loop-step.onto c.loop-step.sender next c._step-item.result h
    c.loop-step.hops.items now all c.requires.first_copies c.loop-step-test.true sent
    c.in_ok-push.ensures.items
    sender c.loop-step.invariant)
