-- TTLs rise along the walk.
use Rattle.mc_theory.proofs.WalkBack.{walk_ends-travel}
use Rattle.mc_theory.proofs.travel_laws.the_walk_back_ends.Goals as goal

pub returns : goal.returns
returns c = λ n count t x numbers last is travel. walk_ends-travel n count t numbers last is x travel
