-- By the walk back that the finding names.
use Rattle.mc_theory.proofs.Hops.{came_from_lan-from_loop, is_path-from_came_from_lan}
use Rattle.mc_theory.proofs.Hops.{hops_from_lan-within_all_hops}
use Rattle.mc_theory.proofs.hop_laws.loop_copy_came_from_its_own_lan.Goals as goal

pub returns-clause-came_from_lan : goal.returns-clause-came_from_lan
returns-clause-came_from_lan c = λ n count t l d x numbers last is travel.
    came_from_lan-from_loop n count t numbers last is x l d travel

pub returns-clause-path : goal.returns-clause-path
returns-clause-path c = is_path-from_came_from_lan

pub returns-clause-all_hops_pass_lan : goal.returns-clause-all_hops_pass_lan
returns-clause-all_hops_pass_lan c =
    λ n cs l c hs ks x by. (hops_from_lan-within_all_hops n cs l c hs ks x by).1
