-- The copy that is kept for the LAN is its first one, and the hops that were found are its path. Packets
-- with the flow's TTL don't get through that path, so that one of its hops stops them.
use Rattle.std.proofs.Common.{ℕ, ◌≤◌, List, [], ◌∷◌, ◌++◌, refl, ap, sym, subst, ◌∙◌}
use Rattle.mc_theory.specs.Paths.{Hop, need}
use Rattle.mc_forward.specs.FlightsInDomain.{net_in}
use Rattle.mc_explain.specs.declared.causes.Cause.TheVariants.{LeastTtl, StoppedAt}
use Rattle.mc_theory.specs.Hops.{hops_of_copy}
use Rattle.mc_explain.proofs.FoundCopyLemmas.{held-is_first_copy, found_hops-are_path}
use Rattle.mc_explain.proofs.FoundCopyLemmas.{passes_hops-from_no_stop, is_stopped-from_stop}
use Rattle.mc_explain.proofs.FoundCopyLemmas.{causes-two_pushed}
use Rattle.mc_explain.proofs.causes.explained.explain_least_ttl.Goals as goal

-- If no hop stopped a packet with the flow's TTL, it would get through the path, which it doesn't.
pub unreachable-requires-in_default-first_stop : goal.unreachable-requires-in_default-first_stop
unreachable-requires-in_default-first_stop c =
    let n = net_in c.args.view.now in
    let cs = c.args.greatest.now.flight.carried in
    let r = c.requires.path in
    let same = held-is_first_copy c.in_ok-first_copies.first_copies.by_lan cs c.copies.result.now c.args.lan
    c.args.lan
    c.on.result c.in-Some.first r.first c.in_ok-first_copies.ensures.first_copies c.copies.ensures.copies refl
    c.on.ensures c.in-Some.is r.path.on in
    let path = found_hops-are_path n cs c.copies-2.result.now r.first c.in-Some.first c.in_ok-path.path.items
    c.deref.result.now c.copies-2.ensures.copies same c.in_ok-path.ensures.ok c.deref.ensures.value in
    r.stopped (passes_hops-from_no_stop n.ttl c.ttl.result c.deref.result.now (hops_of_copy n cs r.first)
    c.first_stop.result
    c.first_stop.ensures c.ttl.ensures path c.in_default-first_stop.is)

-- A packet with TTL 255 came by this path, so its need is at most 255.
pub need-requires : goal.need-requires
need-requires c = record {
  bounded = (
      let n = net_in c.args.view.now in
      let cs = c.args.greatest.now.flight.carried in
      let r = c.requires.path in
      let same = held-is_first_copy c.in_ok-first_copies.first_copies.by_lan cs c.copies.result.now
      c.args.lan c.args.lan
      c.on.result c.in-Some.first r.first c.in_ok-first_copies.ensures.first_copies c.copies.ensures.copies
      refl
      c.on.ensures c.in-Some.is r.path.on in
      let path = found_hops-are_path n cs c.copies-2.result.now r.first c.in-Some.first
      c.in_ok-path.path.items
      c.deref-2.result.now c.copies-2.ensures.copies same c.in_ok-path.ensures.ok c.deref-2.ensures.value
      in subst (λ (hs : List Hop). need hs ≤ 255) (sym path) r.path.small);
}

-- The causes are the need of the path and its first hop that stops a packet with the flow's TTL.
pub returns : goal.returns
returns c = record {
  ok = (
      let n = net_in c.args.view.now in
      let cs = c.args.greatest.now.flight.carried in
      let r = c.requires.path in
      let same = held-is_first_copy c.in_ok-first_copies.first_copies.by_lan cs c.copies.result.now
      c.args.lan c.args.lan
      c.on.result c.in-Some.first r.first c.in_ok-first_copies.ensures.first_copies c.copies.ensures.copies
      refl
      c.on.ensures c.in-Some.is r.path.on in
      let path = found_hops-are_path n cs c.copies-2.result.now r.first c.in-Some.first
      c.in_ok-path.path.items
      c.deref.result.now c.copies-2.ensures.copies same c.in_ok-path.ensures.ok c.deref.ensures.value in
      let path' = found_hops-are_path n cs c.copies-2.result.now r.first c.in-Some.first
      c.in_ok-path.path.items
      c.deref-2.result.now c.copies-2.ensures.copies same c.in_ok-path.ensures.ok c.deref-2.ensures.value
      in
      let hop = c.in-Some-first_stop.stopped.0 in
      let left = c.in-Some-first_stop.stopped.1 in
      record {
        copy = r.first;
        path = hops_of_copy n cs r.first;
        hop = hop;
        left = left;
        copy_is = r.path.on;
        came_by_hops = r.path.came_by_hops;
        stopped = is_stopped-from_stop n.ttl c.ttl.result c.deref.result.now (hops_of_copy n cs r.first)
            c.first_stop.result
            hop left c.first_stop.ensures c.ttl.ensures path c.in-Some-first_stop.is;
        causes_are = causes-two_pushed (LeastTtl c.args.lan (need (hops_of_copy n cs r.first)))
            (StoppedAt hop.router hop.vif hop.threshold left) c.new-causes.result.items
            c.push.new.self.items c.push-2.new.self.items c.new-causes.ensures.items
            (c.in_ok-push.ensures.items ∙ ap (λ (k : ℕ). c.new-causes.result.items
            ++ LeastTtl c.args.lan k ∷ []) (c.need.ensures.value ∙ ap need path'))
            (c.in_ok-push-2.ensures.items ∙ ap (λ (h : Hop). c.push.new.self.items
            ++ StoppedAt h.router h.vif h.threshold left ∷ []) c.hop.view_is);
      });
}
