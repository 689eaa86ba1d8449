-- The kept second copy is the flight's first double one, so the hops that were found are those by which
-- that copy came from its own LAN.
use Rattle.std.proofs.Common.{length}
use Rattle.mc_theory.specs.Hops.{hops_until}
use Rattle.mc_forward.specs.FlightsInDomain.{net_in}
use Rattle.mc_explain.proofs.FoundCopyLemmas.{hops_until-same_copy, is_remedy-same_copy}
use Rattle.mc_explain.proofs.FoundCopyLemmas.{first_double-same_copy, causes-circle_then_remedy}
use Rattle.mc_explain.proofs.causes.explained.explain_loop.Goals as goal

pub returns : goal.returns
returns c = record {
  ok = (
      let n = net_in c.args.view.now in
      let f = c.args.flight.now.flight in
      let lan = c.args.lan in
      let cs = f.carried in
      let has = c.requires.second.has in
      let circle = hops_until n cs lan (length cs) has.second.lan has.second.sender in
      let remedy = c.in_ok-remedy.remedy in
      let same = first_double-same_copy cs c.copies.result.now has.second c.in-Some.second _
      c.copies.ensures.copies c.in_ok-first_copies.ensures.second c.in-Some.is has.is.found in
      let found = hops_until-same_copy n cs c.copies-2.result.now lan has.second c.in-Some.second
      c.in_ok-circle.circle.items c.copies-2.ensures.copies same has.on c.in_ok-circle.ensures.ok in
      record {
        second = has.second;
        circle = circle;
        remedy = remedy;
        came_by_hops = c.requires.second.came_by_hops;
        take_out = is_remedy-same_copy n f lan has.second c.in-Some.second remedy same has.on
            c.in_ok-remedy.ensures.ok;
        causes_are = causes-circle_then_remedy c.deref.result.now c.in_ok-circle.circle.items circle remedy
            c.in_ok-causes.causes.items c.push.new.self.items c.deref.ensures.value found
            c.in_ok-causes.ensures c.in_ok-push.ensures.items;
      });
}
