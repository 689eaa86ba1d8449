-- The copy that is kept for the LAN is its first one, and the hops that were found are its path. The second
-- copy was sent by an interface that isn't on that path.
use Rattle.std.proofs.Common.{◌≡◌, ◌≤◌, List, Some, refl, ap, sym, subst, ◌∙◌}
use Rattle.mc_theory.specs.Flights.{Copy}
use Rattle.mc_theory.specs.Paths.{Hop, need}
use Rattle.mc_forward.specs.FlightsInDomain.{net_in}
use Rattle.mc_explain.proofs.FoundCopyLemmas.{held-not_none_on_first, held-is_first_copy}
use Rattle.mc_explain.proofs.FoundCopyLemmas.{found_hops-are_path, is_remedy-from_second_copy}
use Rattle.mc_explain.proofs.causes.explained.remedy_for.Goals as goal

-- A LAN with a second copy has a first.
pub unreachable-requires : goal.unreachable-requires
unreachable-requires c =
    let cs = c.args.flight.now.flight.carried in
    let lan = ap (λ (x : Copy). x.lan) c.second.view_is in
    held-not_none_on_first c.args.first_copies.now.by_lan cs cs _ c.args.second.now.lan c.on.result
    c.requires.second.first c.requires.first_copies refl lan c.on.ensures c.in_default.is
    c.requires.second.path.on

-- The travel's packet came by this path, so its need is at most 255.
pub need-requires : goal.need-requires
need-requires c = record {
  bounded = (
      let n = net_in c.args.view.now in
      let cs = c.args.flight.now.flight.carried in
      let first = c.requires.second.first in
      let lan = ap (λ (x : Copy). x.lan) c.second.view_is in
      let same = held-is_first_copy c.args.first_copies.now.by_lan cs cs _ c.args.second.now.lan c.on.result
      c.in-Some.first first c.requires.first_copies refl lan c.on.ensures c.in-Some.is
      c.requires.second.path.on in
      let path = found_hops-are_path n cs c.copies.result.now first c.in-Some.first c.in_ok-path.path.items
      c.deref.result.now c.copies.ensures.copies same c.in_ok-path.ensures.ok c.deref.ensures.value in
      subst (λ (hs : List Hop). need hs ≤ 255) (sym path) c.requires.second.path.small);
}

-- Packets reach the LAN by the first copy's path where the second copy's sender is taken out.
pub returns : goal.returns
returns c = record {
  ok = (
      let n = net_in c.args.view.now in
      let cs = c.args.flight.now.flight.carried in
      let first = c.requires.second.first in
      let lan = ap (λ (x : Copy). x.lan) c.second.view_is in
      let same = held-is_first_copy c.args.first_copies.now.by_lan cs cs _ c.args.second.now.lan c.on.result
      c.in-Some.first first c.requires.first_copies refl lan c.on.ensures c.in-Some.is
      c.requires.second.path.on in
      let path = found_hops-are_path n cs c.copies.result.now first c.in-Some.first c.in_ok-path.path.items
      c.deref.result.now c.copies.ensures.copies same c.in_ok-path.ensures.ok c.deref.ensures.value in
      let sent : c.args.second.now.sender ≡ Some (c.in-Some-sender.router, c.in-Some-sender.vif) =
      sym (ap (λ (x : Copy). x.sender) c.second.view_is) ∙ c.in-Some-sender.is in
      is_remedy-from_second_copy n c.args.flight.now.flight c.args.second.now _ _ _ _ c.requires.second lan
      sent
      (c.need.ensures.value ∙ ap need path));
}
