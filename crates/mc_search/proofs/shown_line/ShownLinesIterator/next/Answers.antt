-- The lines at the front about routers that expect copies from one LAN are shown as one, and the shown
-- lines after it are those of the rest.
use Rattle.std.proofs.Common.{◌≤◌, ℕ, length, sym, subst, ◌∙◌, rules}
use Rattle.mc_search.proofs.ShownLineLemmas.{leading_expected-at_most_length, shown_lines-split}
use Rattle.mc_search.proofs.shown_line.ShownLinesIterator.next.Goals as goal

-- No more of the lines are of this kind than there are.
pub split_at-requires : goal.split_at-requires
split_at-requires c = subst (λ (n : ℕ). n ≤ length c.self.inside.left.now) (sym c.leading_expected.ensures)
    (leading_expected-at_most_length _ c.self.inside.left.now)

pub returns-in-ExpectedFromHere-clause-steps : goal.returns-in-ExpectedFromHere-clause-steps
returns-in-ExpectedFromHere-clause-steps c =
    sym c.self.view_is
    ∙ shown_lines-split c.in-ExpectedFromHere.lan c.in-ExpectedFromHere.router c.self.inside.left.now
    c.split_at.result.0.now c.split_at.result.1.now c.leading_expected.result _
    (sym c.is_empty.ensures ∙ c.if-is_empty.false) c.in-ExpectedFromHere.is c.leading_expected.ensures
    c.split_at.ensures.front c.split_at.ensures.back

pub returns-in-ExpectedFromHere-clause-goes : goal.returns-in-ExpectedFromHere-clause-goes
returns-in-ExpectedFromHere-clause-goes c =
    let cut = sym c.self.view_is
    ∙ shown_lines-split c.in-ExpectedFromHere.lan c.in-ExpectedFromHere.router c.self.inside.left.now
    c.split_at.result.0.now c.split_at.result.1.now c.leading_expected.result _
    (sym c.is_empty.ensures ∙ c.if-is_empty.false) c.in-ExpectedFromHere.is c.leading_expected.ensures
    c.split_at.ensures.front c.split_at.ensures.back in
    rw cut (search rules)
