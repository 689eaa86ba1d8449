-- Since there are fewer hops than carried copies.
use Rattle.mc_theory.proofs.Hops.{came_by_hops-hops_back, hops_until-travel}
use Rattle.mc_theory.proofs.Hops.{came_from_lan-hops_until, hops_back-came_by_hops}
use Rattle.mc_theory.proofs.Hops.{hops_until-came_from_lan}
use Rattle.mc_theory.proofs.hop_laws.hops_are_found_one_by_one.Goals as goal

pub returns-clause-all_hops : goal.returns-clause-all_hops
returns-clause-all_hops c = λ n count t d net x numbers last is travel.
    came_by_hops-hops_back n count t numbers last is x d net travel

pub returns-clause-hops_from_lan : goal.returns-clause-hops_from_lan
returns-clause-hops_from_lan c = λ n count t l d hs net x numbers last is travel.
    hops_until-travel n count t numbers last is x l d hs net travel

pub returns-clause-hops_of_loop : goal.returns-clause-hops_of_loop
returns-clause-hops_of_loop c = λ n count t l d net x numbers last is travel.
    came_from_lan-hops_until n count t numbers last is x l d net travel

pub returns-clause-enough : goal.returns-clause-enough
returns-clause-enough c = hops_back-came_by_hops

pub returns-clause-enough_until : goal.returns-clause-enough_until
returns-clause-enough_until c = hops_until-came_from_lan
