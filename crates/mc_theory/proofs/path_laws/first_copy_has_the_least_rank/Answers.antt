-- First in, first out.
use Rattle.mc_theory.proofs.LeastRanks.{first_copy-has_least_rank}
use Rattle.mc_theory.proofs.path_laws.first_copy_has_the_least_rank.Goals as goal

pub returns : goal.returns
returns c = λ n count t l d hs net is x travel. first_copy-has_least_rank n count t is x l d hs net travel
