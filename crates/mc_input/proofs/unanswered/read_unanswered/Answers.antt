use Rattle.std.proofs.Common.{◌≡◌, ℕ, ◌∙◌, List, ap, length, map, subst, sym}
use Rattle.std.specs.List.Sorted.{IsStrictlySortedBy}
use Rattle.std.proofs.lemmas.Result.{err_from_is_err_and}
use Rattle.mc_tables.specs.CacheTable.{key_cmp}
use Rattle.mc_topology.specs.Topology.{TopologyValue}
use Rattle.mc_asked.specs.ListWants.{Want}
use Rattle.mc_asked.specs.Unadmitted.{with_unadmitted}
use Rattle.mc_input.specs.ExcludedRouters.{files_without}
use Rattle.mc_input.specs.ListsOfFiles.{AreListsOf}
use Rattle.mc_input.specs.StatesOfFiles.{AreStatesOf}
use Rattle.mc_input.proofs.unanswered.read_unanswered.Goals as goal

-- There is one `LanWants` for each LAN, and the lines ascend.
pub read_asked_wants-requires : goal.read_asked_wants-requires
read_asked_wants-requires g c = record {
  count = c.requires.count
      ∙ sym (ap (λ (t : TopologyValue). length t.lans) c.topology-topology.ensures.topology);
  sorted = subst (λ (l : List (Want × List ℕ)). IsStrictlySortedBy key_cmp (map (λ line. line.0) l))
      (sym c.deref.ensures.value) c.in_ok-asked.ensures.ascending;
  room = c.requires.room;
  failures = c.requires.failures;
}

-- The lists are those of the first reading, which could be read.
pub returns-in_err-needed-clause-fault : goal.returns-in_err-needed-clause-fault
returns-in_err-needed-clause-fault g c = λ ignored summary contents is wants summaries.
    let p = err_from_is_err_and c.from_residual-in_err-needed.result
    c.from_residual-in_err-needed.ensures.1 in
    let files = files_without c.args.without.now contents in
    rw (p.1, p.2)
    (c.in_err-needed.ensures.fault wants.lists contents is
    (subst (λ (t : TopologyValue). AreListsOf files t wants.lists)
    (sym c.topology-topology.ensures.topology) wants.of))

-- The caches are those of the first reading, which could be read.
pub returns-in_err-states-clause-fault : goal.returns-in_err-states-clause-fault
returns-in_err-states-clause-fault g c = λ ignored summary contents is wants summaries.
    let p = err_from_is_err_and c.from_residual-in_err-states.result
    c.from_residual-in_err-states.ensures.1 in
    rw (p.1, p.2)
    (c.in_err-states.ensures.fault c.args.all contents summary (c.in_ok-needed.ensures.kept ∙ is) summaries)

-- Lines, counts and services are computed from the kept wants, and the states from the lists and the
-- caches that are read once more, which are the same ones.
pub returns-clause-asked : goal.returns-clause-asked
returns-clause-asked g c = λ ignored summary contents is wants summaries.
    let d = c.args.domain.now in
    let files = files_without c.args.without.now contents in
    let lines : c.deref.result.now ≡ c.in_ok-asked.asked.lines.items = c.deref.ensures.value in
    let lists = subst (λ (t : TopologyValue). AreListsOf files t wants.lists)
    (sym c.topology-topology.ensures.topology) wants.of in
    let needed = c.deref-2.ensures.value
    ∙ c.in_ok-needed.ensures.wants c.args.all _ wants.lists contents is lists wants.kept
    (lines ∙ c.in_ok-asked.ensures.lines)
    ∙ ap (map (with_unadmitted wants.lists)) lines in
    record {
      wants = c.args.wants.now;
      of = wants;
      lines = c.in_ok-asked.ensures.lines;
      count = c.count_wants.ensures;
      further = c.in_ok-asked.ensures.further;
      services = c.in_ok-services.ensures;
      states = subst (λ (ws : List (Want × List ℕ)). AreStatesOf files ws d c.in_ok-states.states.items)
          needed (c.in_ok-states.ensures.states c.args.all contents summary
          (c.in_ok-needed.ensures.kept ∙ is) summaries);
    }
