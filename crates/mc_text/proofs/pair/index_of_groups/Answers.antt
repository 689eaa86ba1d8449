-- The numbers that are indexed are the pairs' groups.
use Rattle.mc_text.proofs.pair.index_of_groups.Goals as goal

pub returns : goal.returns
returns c = rw (← c.in_ok-numbers.ensures) c.of.ensures
