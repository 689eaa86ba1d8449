-- What is kept for a search, the first copy on each LAN among it, makes it the search of this flight's
-- flow.
use Rattle.std.proofs.Common.{subst}
use Rattle.std.specs.Prelude.{IfOk}
use Rattle.mc_search.specs.SearchReach.{IsLanSearch}
use Rattle.mc_search.specs.SearchLine.{Search}
use Rattle.mc_search.proofs.SearchLemmas.{search-of_view}
use Rattle.mc_search.proofs.searching.search.Goals as goal

pub returns : goal.returns
returns c = record {
  ok = (
      subst (λ (s : Search). IfOk c.search_with_reach.result (IsLanSearch s c.args.events.now c.args.missed))
      (search-of_view c.flow_view-view.result.now c.args.flight.now.domain c.args.flight.now.flow
      c.args.summary.now c.args.excluded.now c.in_ok-first_copies.first_copies.by_lan c.copies.result.now
      c.args.flight.now.flight.carried c.flow_view-view.ensures c.in_ok-first_copies.ensures.first_copies
      c.copies.ensures.copies)
      c.search_with_reach.ensures.ok);
}
