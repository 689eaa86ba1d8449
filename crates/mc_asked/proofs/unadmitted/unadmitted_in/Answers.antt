use Rattle.std.proofs.Common.{◌≡◌, ℕ, Bool, List, filter, map, not, sym, subst, ap, ◌∙◌}
use Rattle.mc_filter.specs.FilterBuilding.{wanted}
use Rattle.std.specs.List.Sorted.{IsStrictlySortedBy}
use Rattle.mc_tables.specs.CacheTable.{key_cmp}
use Rattle.mc_tables.specs.Summary.{in_order}
use Rattle.mc_asked.specs.Unadmitted.{AreMarksOf, unadmitted_in}
use Rattle.mc_asked.proofs.NoFilterLemmas.{unadmitted_in-ascend}
use Rattle.mc_asked.proofs.UnadmittedLemmas.{are_marks-of_wanted}
use Rattle.mc_asked.proofs.unadmitted.unadmitted_in.Goals as goal
use Rattle.mc_asked.proofs.unadmitted.unadmitted_in.Goals.{After-drop-pairs-2}

-- The marks say of each listed pair whether the list wants it, so that the unmarked pairs are those which
-- it doesn't admit.
value : (c : After-drop-pairs-2)
    → c.in_ok-unmarked.field-0.items ≡ unadmitted_in c.args.list.now c.args.groups.now
value c =
    let records = c.args.list.now in
    let test : ℕ × ℕ → Bool = λ p. wanted records p.0 p.1 in
    let pairs = c.deref-3.result.now in
    let keeps : ℕ × ℕ → Bool = λ p. not (test p) in
    let channels = c.in_ok-of.ensures ∙ c.deref-2.ensures.value ∙ c.in_ok-swapped.ensures
    ∙ ap (map (λ (p : ℕ × ℕ). (p.1, p.0))) (c.deref.ensures.value ∙ sym c.deref-3.ensures.value) in
    let marks = are_marks-of_wanted records pairs c.in_ok-of.field-0 c.in_ok-wants.wants.wanted.items channels
    c.in_ok-wants.ensures.each in
    c.in_ok-unmarked.ensures test
    (subst (λ (l : List Bool). AreMarksOf test pairs l) (sym c.deref-4.ensures.value) marks)
    ∙ ap (filter keeps) (c.deref-3.ensures.value ∙ c.sorted_without_repeats-pairs.ensures
    ∙ ap in_order c.in_ok-listed_in.ensures)

pub returns-clause-value : goal.returns-clause-value
returns-clause-value c = value c

-- The listed pairs are in order, and so are those of them that are kept.
pub returns-clause-sorted : goal.returns-clause-sorted
returns-clause-sorted c =
    subst (IsStrictlySortedBy key_cmp) (sym (value c))
    (unadmitted_in-ascend c.args.list.now c.args.groups.now)
