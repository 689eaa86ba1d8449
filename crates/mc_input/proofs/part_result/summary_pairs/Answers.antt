use Rattle.std.proofs.Common.{ℕ, ◌∙◌, List, subst}
use Rattle.mc_input.specs.Kept.{AreSamePairs}
use Rattle.mc_input.proofs.part_result.summary_pairs.Goals as goal

-- The index was made of the pairs of the topology's flows.
pub returns-clause-listed : goal.returns-clause-listed
returns-clause-listed c =
    subst (λ (pairs : List (ℕ × ℕ)). AreSamePairs c.in_ok-of.field-0 pairs)
    (c.deref.ensures.value ∙ c.in_ok-source_group_pairs.ensures) c.in_ok-of.ensures
