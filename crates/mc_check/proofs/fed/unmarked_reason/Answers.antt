use Rattle.std.proofs.Common.{All, subst, sym}
use Rattle.mc_forward.specs.FlightsInDomain.{net_in}
use Rattle.mc_check.specs.FedLans.{NeedsNoFeedOrIsMarked}
use Rattle.mc_check.proofs.FedLemmas.{no_unfed-marked}
use Rattle.mc_check.proofs.fed.unmarked_reason.Goals as goal

-- No entry is unfed, since each has no forwarder or is of a LAN that is marked.
pub returns-then-are_all_marked : goal.returns-then-are_all_marked
returns-then-are_all_marked c =
    sym (no_unfed-marked (net_in c.args.view.now) c.args.by_lan.now c.args.fed.now c.requires.fed
    c.requires.distinct
    (subst (All (NeedsNoFeedOrIsMarked c.args.fed.now)) c.entries.ensures
    (c.are_all_marked.ensures c.if-are_all_marked.true)))
