use Rattle.std.proofs.Common.{ℕ, List, subst}
use Rattle.std.specs.Prelude.{◌↔◌, Contains}
use Rattle.std.proofs.lemmas.List.Elements.{All-weaker}
use Rattle.mc_asked.proofs.few_repeats.FewRepeats.drop_other_repeats.Goals as goal

-- The same numbers are there, so those that are remembered still are.
pub invariant_of-self : goal.invariant_of-self
invariant_of-self c =
    All-weaker (λ (number : ℕ). Contains c.self.inside.numbers.items number)
    (λ (number : ℕ). Contains c.drop_repeats.new.numbers.items number)
    (λ number among. (c.drop_repeats.ensures number).1 among) c.self.inside.recent.items c.self.invariant

-- The same numbers are there.
pub returns : goal.returns
returns c = record {
  same = subst (λ (items : List ℕ). (number : ℕ) →
      Contains c.drop_repeats.new.numbers.items number ↔ Contains items number) c.self.view_is
      c.drop_repeats.ensures;
}
