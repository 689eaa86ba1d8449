use Rattle.std.proofs.Common.{ℕ, List, subst, sym}
use Rattle.std.specs.Prelude.{Contains}
use Rattle.std.specs.List.{All}
use Rattle.std.proofs.lemmas.List.Elements.{All-get_or}
use Rattle.mc_asked.proofs.few_repeats.FewRepeats.is_recent.Goals as goal

-- What is remembered is among the numbers.
pub returns : goal.returns
returns c = λ is.
    let among = λ (number : ℕ). Contains c.self.inside.numbers.items number in
    let at = c.is_number_at.ensures is in
    subst (λ (items : List ℕ). Contains items c.args.number) c.self.view_is
    (subst among at.1 (All-get_or among c.deref.result.now c.place_of.result 0 at.0
    (subst (All among) (sym c.deref.ensures.value) c.self.invariant)))
