use Rattle.std.proofs.Common.{◌∙◌}
use Rattle.mc_asked.proofs.IndexLemmas.{has-from_place}
use Rattle.mc_asked.proofs.wants.has_number.Goals as goal

-- An index gives a place exactly to a number that it has.
pub returns-clause-value : goal.returns-clause-value
returns-clause-value c =
    c.is_some.ensures
    ∙ has-from_place c.args.index.now c.args.number c.place_of.result c.place_of.ensures.found
    c.place_of.ensures.none
