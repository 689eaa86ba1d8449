-- The interfaces at the front that are the first router's are its group, and the groups of the others are
-- those that are left.
use Rattle.std.proofs.Common.{◌≤◌, ℕ, length, sym, subst, ◌∙◌, rules}
use Rattle.mc_search.proofs.GroupLemmas.{leading_of_router-at_most_length, group_by_router-split}
use Rattle.mc_search.proofs.routers_on_lan.RoutersOnLanIterator.next.Goals as goal

-- No more of the interfaces are the first router's than there are.
pub split_at-requires : goal.split_at-requires
split_at-requires c = subst (λ (n : ℕ). n ≤ length c.self.inside.left.now) (sym c.leading_of_router.ensures)
    (leading_of_router-at_most_length _ c.self.inside.left.now)

pub returns-clause-steps : goal.returns-clause-steps
returns-clause-steps c =
    sym c.self.view_is
    ∙ group_by_router-split c.self.inside.left.now c.split_at.result.0.now c.split_at.result.1.now
    c.index-self-0.result c.leading_of_router.result (sym c.is_empty.ensures ∙ c.if-is_empty.false)
    c.index-self-0.is c.leading_of_router.ensures c.split_at.ensures.front c.split_at.ensures.back

pub returns-clause-goes : goal.returns-clause-goes
returns-clause-goes c =
    let cut = sym c.self.view_is
    ∙ group_by_router-split c.self.inside.left.now c.split_at.result.0.now c.split_at.result.1.now
    c.index-self-0.result c.leading_of_router.result (sym c.is_empty.ensures ∙ c.if-is_empty.false)
    c.index-self-0.is c.leading_of_router.ensures c.split_at.ensures.front c.split_at.ensures.back in
    rw cut (search rules)
