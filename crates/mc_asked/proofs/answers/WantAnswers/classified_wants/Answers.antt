use Rattle.std.proofs.Common.{ℕ, List, filter, flat_map, map, refl, ap, subst, ◌∙◌}
use Rattle.mc_asked.specs.Answers.{class_of}
use Rattle.mc_asked.specs.Indexes.{AreFlowsWanted, IsIndexOfWantedGroups}
use Rattle.mc_asked.specs.ClassifiedWants.{is_asked_class, is_service_class}
use Rattle.mc_asked.specs.ListWants.{asked_by, is_of_merged_filter}
use Rattle.mc_asked.proofs.UnansweredLemmas.{filter-unanswered}
use Rattle.mc_asked.proofs.answers.WantAnswers.classified_wants.Goals as goal

-- A want of either class is answered by no flow, since its class would be `Answered` else. So dropping the
-- answered wants first, before the others are put in order, changes neither class.
pub returns : goal.returns
returns c =
    let a = c.args.self.now in
    let list = c.args.list.now in
    let index = subst (λ (flows : List (ℕ × ℕ)). AreFlowsWanted flows list c.args.wanted.now
    → IsIndexOfWantedGroups flows list c.in_ok-wanted_groups.wanted_groups) c.flows.ensures
    (c.in_ok-wanted_groups.ensures list) c.requires.each in
    let each = c.in_ok-classified.ensures list index in
    let wants = c.deref.ensures.value ∙ c.in_ok-wants.ensures
    ∙ ap (filter (is_of_merged_filter list)) (c.in_ok-unanswered.ensures index) in
    let all = flat_map asked_by list in
    record {
      asked = each.asked ∙ ap (filter (λ w. is_asked_class (class_of a c.args.lan list w))) wants
          ∙ filter-unanswered is_asked_class a c.args.lan list (is_of_merged_filter list) all refl;
      services = each.services ∙ ap (map (λ (w : ℕ × ℕ). w.0))
          (ap (filter (λ w. is_service_class (class_of a c.args.lan list w))) wants
          ∙ filter-unanswered is_service_class a c.args.lan list (is_of_merged_filter list) all refl);
    }
