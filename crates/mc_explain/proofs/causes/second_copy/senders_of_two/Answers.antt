-- The sender that is kept for the LAN is that of its first copy, and each sender other than the source
-- makes one cause.
use Rattle.std.proofs.Common.{◌≡◌, ◌∙◌, ap}
use Rattle.mc_theory.specs.Flights.{Copy}
use Rattle.mc_theory.specs.Findings.{sender_on}
use Rattle.mc_explain.proofs.BackLemmas.{sender_on-held}
use Rattle.mc_explain.proofs.FoundCopyLemmas.{causes-two_senders_alone}
use Rattle.mc_explain.proofs.causes.second_copy.senders_of_two.Goals as goal

pub returns : goal.returns
returns c =
    let cs = c.args.copies.now in
    let held = c.args.first_copies.now.by_lan in
    let lan = c.second.inside.lan in
    let same : lan ≡ c.args.second.now.lan = ap (λ (x : Copy). x.lan) c.second.view_is in
    causes-two_senders_alone lan c.args.second.now.lan (sender_on cs c.args.second.now.lan)
    c.args.second.now.sender
    c.sender_on.result c.second.inside.sender c.new-causes.result.items _ _ c.new-causes.ensures.items
    c.in_ok-add_sender.ensures c.in_ok-add_sender-2.ensures same
    (sender_on-held held cs lan c.sender_on.result c.requires.first_copies c.sender_on.ensures
    ∙ ap (sender_on cs) same)
    (ap (λ (x : Copy). x.sender) c.second.view_is)
