use Rattle.std.proofs.Common.{ℕ, ◌+◌, ◌++◌, Vec, Global, drop, ap, sym, ◌∙◌}
use Rattle.std.proofs.lemmas.Result.{IfOk-weaker}
use Rattle.mc_asked.proofs.IndexLemmas.{groups_of_wanted, groups_of_wanted-all, groups_of_wanted-more}
use Rattle.mc_asked.proofs.IndexLemmas.{groups_of_wanted-skip, is_index_of_wanted_groups}
use Rattle.mc_asked.proofs.unanswered.index_of_wanted_groups.Goals as goal
use Rattle.mc_asked.proofs.unanswered.index_of_wanted_groups.Goals.{then-wanted-flow+in_ok-push}
use Rattle.mc_asked.proofs.unanswered.index_of_wanted_groups.Goals.{else-wanted-flow}

-- A wanted flow's group is the first of those to come, and becomes the last number. A flow that isn't
-- wanted is not among those to come.
pub loop-flow-preserved : goal.loop-flow-preserved
loop-flow-preserved c =
    let flows = c.args.flows.now in
    let wanted = c.args.wanted.now in
    let i = c.loop-flow.flow in
    let numbers = c.loop-flow.numbers.items in
    let all = groups_of_wanted flows wanted in
    elim c.if-wanted-flow.branch [
      | then-wanted-flow+in_ok-push w ↦
          groups_of_wanted-more flows wanted numbers c.if-wanted-flow.numbers.items all i
          w.group_number.result w.index-flows-flow.result c.loop-flow-test.true c.requires
          w.index-flows-flow.is w.if-wanted-flow.true
          (w.group_number.ensures ∙ ap (λ (p : ℕ × ℕ). p.1) (sym w.index-flows-flow.is))
          (ap (λ (v : Vec ℕ Global). v.items) w.numbers-is ∙ w.in_ok-push.ensures.items)
          c.loop-flow.invariant
      | else-wanted-flow w ↦
          ap (λ (v : Vec ℕ Global). v.items ++ groups_of_wanted (drop (i + 1) flows) (drop (i + 1) wanted))
          w.numbers-is
          ∙ groups_of_wanted-skip flows wanted numbers all i c.loop-flow-test.true c.requires
          w.if-wanted-flow.false c.loop-flow.invariant
    ]

-- At the end no group is to come, so that the index has the groups of all wanted flows and no other.
pub returns : goal.returns
returns c = IfOk-weaker c.of.result _ _ (λ index same records each.
    is_index_of_wanted_groups records c.args.flows.now c.args.wanted.now index c.loop-flow.numbers.items
    c.requires each
    (groups_of_wanted-all c.args.flows.now c.args.wanted.now c.loop-flow.numbers.items
    (groups_of_wanted c.args.flows.now c.args.wanted.now) c.loop-flow.flow c.loop-flow-test.false
    c.loop-flow.invariant) same) c.of.ensures
