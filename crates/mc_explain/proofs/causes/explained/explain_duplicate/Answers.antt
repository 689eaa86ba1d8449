-- The copy that is kept for the LAN is its first one, and the kept second copy is the flight's first double
-- one.
use Rattle.std.proofs.Common.{◌≡◌, ℕ, Some, refl, ap, subst, ◌∙◌}
use Rattle.mc_theory.specs.Flights.{Copy}
use Rattle.mc_theory.specs.Findings.{first_copy_on}
use Rattle.mc_forward.specs.FlightsInDomain.{net_in}
use Rattle.mc_explain.proofs.FoundCopyLemmas.{held-not_none_on_first, first_copy_on-from_held_some}
use Rattle.mc_explain.proofs.FoundCopyLemmas.{is_remedy-same_copy, first_double-same_copy}
use Rattle.mc_explain.proofs.FoundCopyLemmas.{causes-two_senders}
use Rattle.mc_explain.proofs.causes.explained.explain_duplicate.Goals as goal

-- A LAN with a second copy has a first.
pub unreachable-requires : goal.unreachable-requires
unreachable-requires c =
    let cs = c.args.flight.now.flight.carried in
    let has = c.requires.second in
    held-not_none_on_first c.in_ok-first_copies.first_copies.by_lan cs c.copies.result.now c.args.lan
    c.args.lan c.on.result
    has.is.first c.in_ok-first_copies.ensures.first_copies c.copies.ensures.copies refl c.on.ensures
    c.in_default.is (subst (λ (l : ℕ). first_copy_on cs l ≡ Some has.is.first) has.on has.is.path.on)

-- The senders are those of the two copies, and the remedy is the one for the second.
pub returns : goal.returns
returns c = record {
  ok = (
      let n = net_in c.args.view.now in
      let f = c.args.flight.now.flight in
      let lan = c.args.lan in
      let has = c.requires.second in
      let first = c.in-Some.first in
      let remedy = c.in_ok-remedy.remedy in
      let same = first_double-same_copy f.carried c.copies.result.now has.second c.in-Some-second.second _
      c.copies.ensures.copies c.in_ok-first_copies.ensures.second c.in-Some-second.is has.is.found in
      record {
        first = first;
        second = has.second;
        remedy = remedy;
        first_on = first_copy_on-from_held_some c.in_ok-first_copies.first_copies.by_lan f.carried
            c.copies.result.now lan lan
            c.on.result first c.in_ok-first_copies.ensures.first_copies c.copies.ensures.copies refl
            c.on.ensures c.in-Some.is;
        take_out = is_remedy-same_copy n f lan has.second c.in-Some-second.second remedy same has.on
            c.in_ok-remedy.ensures.ok;
        causes_are = causes-two_senders lan first.sender has.second.sender _ _ remedy
            c.new-causes.result.items _ _ c.push.new.self.items c.new-causes.ensures.items
            c.in_ok-add_sender.ensures c.in_ok-add_sender-2.ensures c.in_ok-push.ensures.items
            (ap (λ (x : Copy). x.sender) c.first.view_is)
            (ap (λ (x : Copy). x.sender) (c.second.view_is ∙ same));
      });
}
