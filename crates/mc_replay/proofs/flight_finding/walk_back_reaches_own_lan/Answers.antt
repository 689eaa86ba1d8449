-- One step of the walk goes to the LAN from which the sender took its copy. It isn't the copy's own, so the
-- walk visits that one exactly if the rest of the walk does, from the first copy on the LAN it came to.
use Rattle.std.proofs.Common.{◌≡◌, ◌+◌, ◌==◌, false, length, drop, Option, Some, ap, sym}
use Rattle.std.proofs.Common.{◌∙◌}
use Rattle.std.specs.Prelude.{option_and_then}
use Rattle.mc_theory.specs.Nets.{Interface}
use Rattle.mc_theory.specs.Flights.{Copy}
use Rattle.mc_theory.specs.Findings.{from_lan, walk_visits, sender_on}
use Rattle.mc_forward.specs.FlightsInDomain.{net_in}
use Rattle.mc_forward.proofs.PerLanLemmas.{first_with_key-first_copy_on}
use Rattle.mc_replay.proofs.WalkLemmas.{walk_visits-next_lan, length-drop_one_more, sender-copy_on}
use Rattle.mc_replay.proofs.flight_finding.walk_back_reaches_own_lan.Goals as goal

pub loop-step-preserved : goal.loop-step-preserved
loop-step-preserved c =
    let n = net_in c.args.view.now in
    let cs = c.args.copies.now in
    let l = c.args.copy.now.lan in
    let p = c.in-Some.lan in
    let i = c.loop-step._step-index in
    let k = length (drop (i + 1) cs) in
    let fewer = length-drop_one_more cs i c._step-item.result c.loop-step-test.true in
    let from : from_lan n c.loop-step.sender ≡ Some p = sym c.from_lan.ensures ∙ c.in-Some.is in
    let own : c.copy.inside.lan ≡ l = ap (λ (x : Copy). x.lan) c.copy.view_is in
    let other : (p == l) ≡ false = ap (λ q. p == q) (sym own)
    ∙ (sym c.eq.ensures ∙ c.if-eq.false) in
    let next : c.sender_on-sender.result ≡ sender_on cs p =
    c.sender_on-sender.ensures
    ∙ (ap (option_and_then (λ (x : Copy). x.sender)) (c.requires.firsts p ∙ first_with_key-first_copy_on cs p)
    ∙ sender-copy_on cs p) in
    ap (λ (x : Option Interface). walk_visits n cs l k x) next
    ∙ (sym (walk_visits-next_lan n cs l k c.loop-step.sender p from other)
    ∙ (ap (λ m. walk_visits n cs l m c.loop-step.sender) (sym fewer) ∙ c.loop-step.invariant))
