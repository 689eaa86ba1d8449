use Rattle.std.proofs.Common.{rules}
use Rattle.mc_explain.proofs.BehindLemmas.{need_of_second-of_view}
use Rattle.mc_explain.proofs.causes.behind.behind_stray.Goals as goal

-- A packet with TTL 255 made both copies, so their paths need no more.
pub behind_with_second-requires-clause-bounded : goal.behind_with_second-requires-clause-bounded
behind_with_second-requires-clause-bounded c =
    need_of_second-of_view c.args.domain.now c.args.flow c.new-view.result c.in_ok-past.past
    c.copies.result.now
    c.in_ok-first_copies.first_copies.second c.in-Some.second c.new-view.ensures.flow c.new-view.ensures.rules
    c.in_ok-past.ensures.run c.copies.ensures.copies c.in_ok-first_copies.ensures.second c.in-Some.is

-- Where a LAN carried two copies, the answer doesn't depend on the stray, nor on whether a router is
-- excluded.
pub returns-in-Some : goal.returns-in-Some
returns-in-Some c =
    let behind = c.behind_with_second.ensures c.args.whole c.args.own in
    search rules
