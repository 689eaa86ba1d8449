-- The LAN at each position of the list of visited ones is searched, and the LANs to which its lines lead
-- are added. There are as many positions as LANs, and no LAN is visited twice, so that all visited ones are
-- searched.
use Rattle.std.proofs.Common.{◌≡◌, ℕ, ◌≤◌, List, Vec, Global, Some, None, length, flat_map, sym, ap}
use Rattle.std.proofs.Common.{subst, ◌∙◌, arith}
use Rattle.std.specs.Prelude.{slice_get}
use Rattle.std.proofs.lemmas.List.{take_all}
use Rattle.mc_search.specs.declared.visited_lans.VisitedLans.{VisitedLans}
use Rattle.mc_search.specs.declared.search_line.SearchLine.{SearchLine}
use Rattle.mc_search.specs.LanProbe.{search_in}
use Rattle.mc_search.specs.LanProbe.{IsVisitedLans}
use Rattle.mc_search.specs.SearchLine.{append_new, next_lans, lines_of_lan, visited_lans, visited_after}
use Rattle.mc_search.proofs.SearchLemmas.{length-visited, visited-more, length-from_slice_get_none}
use Rattle.mc_search.proofs.SearchLemmas.{lines_so_far-more, lines_so_far-same}
use Rattle.mc_search.proofs.searching.search_lans.Goals as goal
use Rattle.mc_search.proofs.searching.search_lans.Goals.{in-Some+in_ok-search_one_lan, in_default}

-- A LAN at this position is searched: its lines come after the others. Where there is none, nothing is left
-- to search.
pub loop-position-preserved : goal.loop-position-preserved
loop-position-preserved c =
    let s = search_in c.args.lan_probe.now in
    let missed = c.args.missed in
    let k = c.loop-position.position in
    let lans = visited_lans s missed k in
    let count = length c.args.lan_probe.now.view.now.domain.topology.lans in
    let same = c.loop-position.invariant.lans in
    let found : slice_get lans k ≡ c.at.result =
    sym (ap (λ (ls : List ℕ). slice_get ls k) same) ∙ sym c.at.ensures.lan in
    elim c.match-at.branch [
      | in-Some+in_ok-search_one_lan w ↦ (
          let at : slice_get lans k ≡ Some w.in-Some.lan = found ∙ w.in-Some.is in
          record {
            lans = ap (λ (m : VisitedLans). m.lans.items) w.visited_lans-is
                ∙ w.in_ok-search_one_lan.ensures.lans
                ∙ ap (λ (ls : List ℕ). append_new ls (next_lans s w.in-Some.lan)) same
                ∙ sym (visited-more s missed k ∙ ap (visited_after s lans) at);
            lines_so_far = ap (λ (t : Vec SearchLine Global). t.items) w.lines_so_far-is
                ∙ lines_so_far-more s missed k w.in-Some.lan c.loop-position.lines_so_far.items
                w.search_one_lan.new.lines_so_far.items
                at c.loop-position.invariant.lines_so_far w.in_ok-search_one_lan.ensures.lines_so_far;
            is_visited_lans = subst (IsVisitedLans count) (sym w.visited_lans-is)
                w.in_ok-search_one_lan.ensures.visited_lans;
          })
      | in_default w ↦ (
          let none : slice_get lans k ≡ None = found ∙ w.in_default.is in
          record {
            lans = ap (λ (m : VisitedLans). m.lans.items) w.visited_lans-is ∙ same
                ∙ sym (visited-more s missed k ∙ ap (visited_after s lans) none);
            lines_so_far = ap (λ (t : Vec SearchLine Global). t.items) w.lines_so_far-is
                ∙ lines_so_far-same s missed k c.loop-position.lines_so_far.items
                (length-from_slice_get_none lans k none)
                c.loop-position.invariant.lines_so_far;
            is_visited_lans = subst (IsVisitedLans count) (sym w.visited_lans-is)
                c.loop-position.invariant.is_visited_lans;
          })
    ]

-- The visited LANs are no more than there are positions, so each has its lines.
pub returns-clause-lines : goal.returns-clause-lines
returns-clause-lines c =
    let s = search_in c.args.lan_probe.now in
    let missed = c.args.missed in
    let k = c.loop-position.position in
    let count = length c.args.lan_probe.now.view.now.domain.topology.lans in
    let end : k ≡ count =
    omega (arith, c.loop-position-test.false, c.loop-position.auto.position-end, c.lans-lans.ensures.count) in
    let few : length (visited_lans s missed k) ≤ k =
    let short = length-visited s missed k c.loop-position.visited_lans.marks
    c.loop-position.visited_lans.lans.items
    c.loop-position.invariant.lans c.loop-position.invariant.is_visited_lans.marked in
    omega (arith, short, c.loop-position.invariant.is_visited_lans.count, end) in
    c.loop-position.invariant.lines_so_far
    ∙ ap (flat_map (lines_of_lan s)) (take_all k (visited_lans s missed k) few)
    ∙ ap (λ (n : ℕ). flat_map (lines_of_lan s) (visited_lans s missed n)) end

-- There were as many steps as LANs.
pub returns-clause-lans : goal.returns-clause-lans
returns-clause-lans c =
    let count = length c.args.lan_probe.now.view.now.domain.topology.lans in
    let end : c.loop-position.position ≡ count =
    omega (arith, c.loop-position-test.false, c.loop-position.auto.position-end, c.lans-lans.ensures.count) in
    c.loop-position.invariant.lans ∙ ap (visited_lans (search_in c.args.lan_probe.now) c.args.missed) end
