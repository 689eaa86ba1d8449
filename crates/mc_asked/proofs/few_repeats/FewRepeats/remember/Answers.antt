use Rattle.std.proofs.Common.{ℕ, List, subst, sym}
use Rattle.std.specs.Prelude.{Contains}
use Rattle.std.proofs.lemmas.List.Elements.{All-set}
use Rattle.mc_asked.proofs.few_repeats.FewRepeats.remember.Goals as goal

-- The one that comes to those that are remembered is among the numbers too.
pub invariant_of-self : goal.invariant_of-self
invariant_of-self c =
    All-set (λ (number : ℕ). Contains c.self.inside.numbers.items number) c.self.inside.recent.items
    c.place_of-place.result c.args.number
    (subst (λ (items : List ℕ). Contains items c.args.number) (sym c.self.view_is) c.requires.among)
    c.self.invariant
