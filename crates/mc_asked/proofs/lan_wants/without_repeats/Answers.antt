use Rattle.std.proofs.lemmas.List.Filters.{dedup_is}
use Rattle.std.proofs.Common.{eqb, ◌∙◌}
use Rattle.mc_asked.proofs.lan_wants.without_repeats.Goals as goal

-- The vector drops each group that equals the one before it, as `dedup` does by its definition.
pub returns : goal.returns
returns c = c.shrink_to_fit.ensures.items ∙ dedup_is eqb _ _ c.dedup.ensures.filtered
