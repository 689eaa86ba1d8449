use Rattle.std.proofs.Common.{ap, sym, ◌∙◌}
use Rattle.mc_asked.specs.Answers.{AnswersValue, is_answered}
use Rattle.mc_asked.proofs.IndexLemmas.{is_answered-any, is_answered-single}
use Rattle.mc_asked.proofs.answers.WantAnswers.is_answered.Goals as goal

-- A flow answers a want of any source exactly where the LAN wants a flow of its group, and the index has
-- the groups of these flows.
pub returns-then-is_unspecified : goal.returns-then-is_unspecified
returns-then-is_unspecified c = λ records index.
    is_answered-any c.args.self.now records c.args.want.now c.args.wanted_groups.now _ _
    (sym c.is_unspecified.ensures ∙ c.if-is_unspecified.true) index c.group_number.ensures
    c.has_number.ensures.means

-- A flow answers a want of a single source exactly where it has that source and group, and the index
-- `channels` has the number of each flow.
pub returns-else-is_unspecified : goal.returns-else-is_unspecified
returns-else-is_unspecified c = λ records index.
    is_answered-single c.self.inside.flows.items records c.args.want.now _ _ _
    (sym c.is_unspecified.ensures ∙ c.if-is_unspecified.false) c.self.invariant.0
    c.pair_number.ensures.number c.pair_number.ensures.pair c.has_number-else-is_unspecified.ensures.means
    ∙ ap (λ (a : AnswersValue). is_answered a records c.args.want.now) c.self.view_is
