use Rattle.std.proofs.Common.{ℕ, ◌∙◌, List, Vec, Global, ap, append-nil, map, subst, sym, true, false}
use Rattle.std.specs.List.Sorted.{IsStrictlyIncreasing}
use Rattle.std.proofs.lemmas.List.{take_all}
use Rattle.mc_asked.specs.ListWants.{Want}
use Rattle.mc_asked.specs.WantSources.{WantSourcesValue, groups_from_any, is_shared_any}
use Rattle.mc_asked.proofs.LanByLanLemmas.{groups_from_any-ascend}
use Rattle.mc_asked.proofs.WantLemmas.{map_filter-take_more}
use Rattle.mc_asked.proofs.unadmitted_sources.UnadmittedSources.groups_from_any.Goals as goal

-- A want's group is pushed exactly where the filter keeps the want.
pub loop-want-preserved : goal.loop-want-preserved
loop-want-preserved c =
    let wants = map (λ (s : WantSourcesValue). s.want) c.args.self.now in
    let own = c.lowest-want-items.result.now in
    let k = c.loop-want.want-index in
    let x = c.want-item.result in
    let before = c.loop-want.groups.items in
    let keys = c.deref.ensures.value ∙ c.self.invariant.0
    ∙ ap (map (λ (s : WantSourcesValue). s.want)) c.self.view_is in
    let test = c.is_shared_any.ensures ∙ ap (λ (ws : List Want). is_shared_any ws x) keys in
    elim c.if-is_shared_any.branch [
      | goal.then-is_shared_any+in_ok-push w ↦
          ap (λ (v : Vec ℕ Global). v.items) w.groups-is ∙ w.in_ok-push.ensures.items
          ∙ map_filter-take_more (λ (v : Want). v.0) (is_shared_any wants) own k x before true
          c.loop-want-test.true c.want-item.is (sym w.if-is_shared_any.true ∙ test) c.loop-want.invariant
      | goal.else-is_shared_any w ↦
          ap (λ (v : Vec ℕ Global). v.items) w.groups-is ∙ sym (append-nil before)
          ∙ map_filter-take_more (λ (v : Want). v.0) (is_shared_any wants) own k x before false
          c.loop-want-test.true c.want-item.is (sym w.if-is_shared_any.false ∙ test) c.loop-want.invariant
    ]

-- At the end the wants so far are all of the LAN's.
pub returns-clause-groups : goal.returns-clause-groups
returns-clause-groups c =
    let wants = map (λ (s : WantSourcesValue). s.want) c.args.self.now in
    c.loop-want.invariant
    ∙ ap (groups_from_any wants)
    (take_all c.loop-want.want-index c.lowest-want-items.result.now c.loop-want-test.false
    ∙ c.lowest-want-items.ensures.value)

-- The LAN's wants ascend, and those of any source have the same second part, so that their groups ascend.
pub returns-clause-ascending : goal.returns-clause-ascending
returns-clause-ascending c =
    let wants = map (λ (s : WantSourcesValue). s.want) c.args.self.now in
    let own = c.lowest-want-items.result.now in
    subst IsStrictlyIncreasing
    (sym (c.loop-want.invariant
    ∙ ap (groups_from_any wants) (take_all c.loop-want.want-index own c.loop-want-test.false)))
    (groups_from_any-ascend wants own c.lowest-want-items.ensures.ascending)
