-- Each visited LAN has a mark, and there is a mark for each LAN: so its number is below the count of LANs.
use Rattle.mc_search.proofs.SearchLemmas.{visited-all_within_marks}
use Rattle.mc_search.proofs.visited_lans.VisitedLans.lans.Goals as goal

pub returns-clause-listed : goal.returns-clause-listed
returns-clause-listed c = λ lans m.
    visited-all_within_marks c.args.self.now.marks c.args.self.now.lans.items c.deref.result.now lans
    c.deref.ensures.value m.count m.marked
