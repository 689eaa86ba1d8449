use Rattle.std.proofs.Common.{◌≡◌, ℕ, List, Some, ap, slice_get, subst, sym, ◌∙◌}
use Rattle.mc_filter.specs.ChannelWants.{AreAllAskedFor}
use Rattle.mc_asked.specs.Answers.{AnswersValue}
use Rattle.mc_tests_readers.proofs.asked.wants_of_lan.Goals as goal

-- the flows that were asked for are those of the answers
pub lan_wants-requires-clause-each : goal.lan_wants-requires-clause-each
lan_wants-requires-clause-each c = λ i flow is_wanted at answer.
    let same : c.in_ok-answers.answers.flows ≡ c.in_ok-of.field-0 =
    ap (λ (a : AnswersValue). a.flows) c.in_ok-answers.ensures
    ∙ sym (c.in_ok-of.ensures ∙ c.deref.ensures.value) in
    c.in_ok-wants.ensures.each i flow is_wanted
    (subst (λ (flows : List (ℕ × ℕ)). slice_get flows i ≡ Some flow) same at) answer

pub lan_wants-requires-clause-all : goal.lan_wants-requires-clause-all
lan_wants-requires-clause-all c = λ none.
    let same : c.in_ok-answers.answers.flows ≡ c.in_ok-of.field-0 =
    ap (λ (a : AnswersValue). a.flows) c.in_ok-answers.ensures
    ∙ sym (c.in_ok-of.ensures ∙ c.deref.ensures.value) in
    subst (λ (flows : List (ℕ × ℕ)). AreAllAskedFor flows c.in_ok-list.list) (sym same)
    (c.in_ok-wants.ensures.all none)
