use Rattle.std.proofs.Common.{ℕ, ◌++◌, ◌∷◌, [], List, subst, sym, ap, ◌∙◌}
use Rattle.std.specs.Prelude.{◌↔◌, Contains}
use Rattle.std.specs.List.{All}
use Rattle.std.proofs.lemmas.List.Elements.{All-weaker, Contains-append_left}
use Rattle.mc_asked.proofs.few_repeats.FewRepeats.push.Goals as goal

-- Where memory is refused the numbers stay as they are.
pub invariant_of-self : goal.invariant_of-self
invariant_of-self c =
    subst (λ (items : List ℕ). All (λ (number : ℕ). Contains items number) c.self.inside.recent.items)
    (sym c.in_err-push.ensures.items) c.self.invariant

-- Those that are remembered are among one number more.
pub invariant_of-self-2 : goal.invariant_of-self-2
invariant_of-self-2 c =
    let old = c.self.inside.numbers.items in
    subst (λ (items : List ℕ). All (λ (number : ℕ). Contains items number) c.self.inside.recent.items)
    (sym c.in_ok-push.ensures.items)
    (All-weaker (λ (number : ℕ). Contains old number)
    (λ (number : ℕ). Contains (old ++ c.args.number ∷ []) number)
    (λ number among. Contains-append_left old (c.args.number ∷ []) number among)
    c.self.inside.recent.items c.self.invariant)

-- Remembering numbers, or dropping repeats, leaves the same ones.
pub returns-in_ok-pass_limit : goal.returns-in_ok-pass_limit
returns-in_ok-pass_limit c = λ other.
    subst (λ (items : List ℕ). Contains c.pass_limit.new.self other ↔ Contains items other)
    (c.remember.ensures.same ∙ c.in_ok-push.ensures.items
    ∙ ap (λ (items : List ℕ). items ++ c.args.number ∷ []) c.self.view_is)
    (c.in_ok-pass_limit.ensures other)
