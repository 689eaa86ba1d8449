use Rattle.std.proofs.Common.{ℕ, arith, map, ap, ap₂, subst, sym, ◌∙◌, refl}
use Rattle.std.specs.List.Sorted.{IsStrictlySortedBy}
use Rattle.mc_tables.specs.CacheTable.{key_cmp}
use Rattle.mc_asked.specs.LanWants.{kept_wants}
use Rattle.mc_asked.specs.ClassifiedWants.{is_asked_class, is_service_class}
use Rattle.mc_asked.proofs.AskedLawLemmas.{asked_wants-ascend}
use Rattle.mc_asked.proofs.UnansweredLemmas.{none-of_class}
use Rattle.mc_asked.proofs.answers.WantAnswers.lan_wants.Goals as goal

-- A list of no wants ascends.
pub into_kept-requires : goal.into_kept-requires
unfolding IsStrictlySortedBy
into_kept-requires c =
    record { ascending = subst (IsStrictlySortedBy key_cmp) (sym c.none.ensures.asked) tt }

-- Where the list asks for wanted flows alone, a flow answers each of its wants, so that none is of a class
-- that is kept.
pub returns-then-not-wants : goal.returns-then-not-wants
returns-then-not-wants c =
    let a = c.args.self.now in
    let list = c.args.list.now in
    let all = c.requires.all (grind arith) in
    c.into_kept.ensures
    ∙ ap₂ (kept_wants c.args.all)
    (c.none.ensures.asked ∙ sym (none-of_class is_asked_class a c.args.lan list refl all))
    (c.none.ensures.services
    ∙ ap (map (λ (w : ℕ × ℕ). w.0)) (sym (none-of_class is_service_class a c.args.lan list refl all)))

-- The wants of a list ascend, and so do those of one class.
pub into_kept-requires-2 : goal.into_kept-requires-2
into_kept-requires-2 c = record {
  ascending = subst (IsStrictlySortedBy key_cmp) (sym c.in_ok-classified.ensures.asked)
      (asked_wants-ascend c.args.self.now c.args.lan c.args.list.now);
}

-- What is kept depends on the two classes alone, and these are as defined.
pub returns : goal.returns
returns c =
    c.into_kept-2.ensures
    ∙ ap₂ (kept_wants c.args.all) c.in_ok-classified.ensures.asked c.in_ok-classified.ensures.services
