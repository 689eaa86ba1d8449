-- By the walk back, which is short.
use Rattle.mc_theory.proofs.Hops.{came_by_hops-fewer_than_copies, came_from_lan-fewer_than_copies}
use Rattle.mc_theory.proofs.hop_laws.fewer_hops_than_carried_copies.Goals as goal

pub returns-clause-came_by_hops : goal.returns-clause-came_by_hops
returns-clause-came_by_hops c = λ n count t d hs x numbers last is travel.
    came_by_hops-fewer_than_copies n count t numbers last is x d hs travel

pub returns-clause-came_from_lan : goal.returns-clause-came_from_lan
returns-clause-came_from_lan c = λ n count t l d hs x numbers last is travel.
    came_from_lan-fewer_than_copies n count t numbers last is x l d hs travel
