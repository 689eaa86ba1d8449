use Rattle.std.proofs.Common.{ℕ, List, filter, map, ap, ◌∙◌}
use Rattle.std.proofs.lemmas.List.{take_all}
use Rattle.mc_asked.specs.Answers.{class_of}
use Rattle.mc_asked.specs.ClassifiedWants.{is_asked_class, is_service_class}
use Rattle.mc_asked.proofs.WantLemmas.{filter-take_more, map_filter-take_more}
use Rattle.mc_asked.proofs.classified_wants.classify.Goals as goal

-- The class of a want decides whether it is added to either list, as it decides in the filters.
pub loop-want-preserved : goal.loop-want-preserved
loop-want-preserved c = λ records index.
    let before = c.loop-want.invariant records index in
    let is = c.class_of-class.ensures records index in
    let wants = c.args.wants.now in
    let i = c.loop-want.want-index in
    let want : ℕ × ℕ = c.want-item.result in (
      c.in_ok-add.ensures.asked
          ∙ filter-take_more (λ w. is_asked_class (class_of c.args.answers.now c.args.lan records w))
          wants i want
          _ _ c.loop-want-test.true c.want-item.is (ap is_asked_class is) before.0,
      c.in_ok-add.ensures.services
          ∙ map_filter-take_more (λ (w : ℕ × ℕ). w.0)
          (λ w. is_service_class (class_of c.args.answers.now c.args.lan records w)) wants i want
          _ _ c.loop-want-test.true c.want-item.is (ap is_service_class is) before.1,
    )

-- At the end the wants so far are all wants.
pub returns : goal.returns
returns c = λ records index.
    let whole = take_all c.loop-want.want-index c.args.wants.now c.loop-want-test.false in
    let both = c.loop-want.invariant records index in
    record {
      asked = both.0 ∙ ap (filter (λ w. is_asked_class (class_of c.args.answers.now c.args.lan records
          w))) whole;
      services = both.1 ∙ ap (λ (ws : List (ℕ × ℕ)). map (λ (w : ℕ × ℕ). w.0)
          (filter (λ w. is_service_class (class_of c.args.answers.now c.args.lan records w)) ws)) whole;
    }
