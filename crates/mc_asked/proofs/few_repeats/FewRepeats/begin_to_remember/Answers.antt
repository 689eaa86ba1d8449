use Rattle.std.proofs.Common.{ℕ, rules, subst, sym}
use Rattle.std.specs.Prelude.{Contains}
use Rattle.std.specs.List.{All}
use Rattle.std.proofs.lemmas.List.Elements.{All-replicate}
use Rattle.mc_asked.proofs.few_repeats.FewRepeats.begin_to_remember.Goals as goal

-- At first the first of the numbers is remembered at each place.
pub invariant_of-self : goal.invariant_of-self
invariant_of-self c =
    let among = λ (number : ℕ). Contains c.self.inside.numbers.items number in
    subst (All among) (sym (c.in_ok-self-inside.ensures.items_if_clones_equal (λ y same. same)))
    (All-replicate among 131071 c.in-Some.first.now (search rules))
