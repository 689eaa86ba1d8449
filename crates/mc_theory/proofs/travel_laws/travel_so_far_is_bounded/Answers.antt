-- By the count of what was heard.
use Rattle.mc_theory.proofs.Travels.{length_bounded-travel_so_far}
use Rattle.mc_theory.proofs.travel_laws.travel_so_far_is_bounded.Goals as goal

pub returns : goal.returns
returns c = length_bounded-travel_so_far
