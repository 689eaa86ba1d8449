-- By the count of what was heard.
use Rattle.mc_theory.proofs.Travels.{length_bounded-travel}
use Rattle.mc_theory.proofs.travel_laws.a_travel_ends.Goals as goal

pub returns : goal.returns
returns c = length_bounded-travel
