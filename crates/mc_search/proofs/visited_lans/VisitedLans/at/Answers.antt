-- Each visited LAN is marked.
use Rattle.std.proofs.Common.{ℕ, ◌<◌, ◌≤◌, length, sym, subst, arith}
use Rattle.std.proofs.lemmas.Option.{slice_get_past}
use Rattle.mc_forward.proofs.IndexLemmas.{slice_get-from_read}
use Rattle.mc_search.proofs.SearchLemmas.{visited-within_marks}
use Rattle.mc_search.proofs.visited_lans.VisitedLans.at.Goals as goal

-- Each visited LAN has a mark, and there is a mark for each LAN.
pub returns-then-position-len-clause-listed : goal.returns-then-position-len-clause-listed
returns-then-position-len-clause-listed c = λ lans m.
    let items = c.args.self.now.lans.items in
    let k = c.args.position in
    let lan = c.index.result.now in
    let within : k < length items = omega (arith, c.if-position-len.true, c.len.ensures) in
    subst (λ (n : ℕ). lan < n) m.count (visited-within_marks c.args.self.now.marks items k lan m.marked
    (slice_get-from_read items k lan within c.index.ensures))

-- At or past the end of the list there is no LAN.
pub returns-else-position-len-clause-lan : goal.returns-else-position-len-clause-lan
returns-else-position-len-clause-lan c =
    let items = c.args.self.now.lans.items in
    let past : length items ≤ c.args.position = omega (arith, c.if-position-len.false, c.len.ensures) in
    sym (slice_get_past items c.args.position past)
