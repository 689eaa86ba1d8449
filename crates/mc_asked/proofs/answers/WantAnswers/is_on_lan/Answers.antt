use Rattle.std.proofs.Common.{ap, ◌∙◌}
use Rattle.mc_asked.specs.Answers.{AnswersValue, is_on_lan}
use Rattle.mc_asked.proofs.IndexLemmas.{has_pair-value}
use Rattle.mc_asked.proofs.answers.WantAnswers.is_on_lan.Goals as goal

-- The index `places` has the number of each listed source with its LAN, and two pairs of 32-bit numbers
-- have the same number only if they are equal.
pub returns : goal.returns
returns c =
    has_pair-value _ _ _ (c.args.want.now.1, c.args.lan) _ c.self.invariant.2
    c.source_number.ensures.number c.source_number.ensures.pair c.has_number.ensures.means
    ∙ ap (λ (a : AnswersValue). is_on_lan a c.args.lan c.args.want.now) c.self.view_is
