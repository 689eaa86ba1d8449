use Rattle.std.proofs.Common.{ℕ, List, map, sym, ap, subst, ◌∙◌}
use Rattle.std.specs.List.Sorted.{IsStrictlySortedBy}
use Rattle.mc_tables.specs.CacheTable.{key_cmp}
use Rattle.mc_asked.specs.Indexes.{IsIndexOfPairs}
use Rattle.mc_asked.specs.WantStates.{StatedWantValue}
use Rattle.mc_asked.proofs.WantStateLemmas.{wants-of_unstated}
use Rattle.mc_asked.proofs.want_states.WantStates.new.Goals as goal

-- The states are made of the wants themselves, which are the keys and ascend as required, and the index is
-- of these.
pub invariant_of-result : goal.invariant_of-result
invariant_of-result c = (
  c.in_ok-keys.ensures
      ∙ sym (ap (map (λ (w : StatedWantValue). w.want)) c.in_ok-wants.ensures
      ∙ wants-of_unstated c.args.wants.now),
  subst (λ (l : List (ℕ × ℕ)). IsStrictlySortedBy key_cmp l) (sym c.in_ok-keys.ensures) c.requires.sorted,
  subst (λ (l : List (ℕ × ℕ)). IsIndexOfPairs l c.in_ok-index.index) c.deref.ensures.value
      c.in_ok-index.ensures,
)
