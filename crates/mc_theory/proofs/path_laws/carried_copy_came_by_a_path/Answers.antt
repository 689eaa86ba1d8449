-- By what each step brings, and by the senders of first copies.
use Rattle.mc_theory.proofs.Paths.{reached_with_ttl-from_carried}
use Rattle.mc_theory.proofs.CameByHops.{came_by_hops, is_path-from_travel}
use Rattle.mc_theory.proofs.path_laws.carried_copy_came_by_a_path.Goals as goal

pub returns-clause-reached : goal.returns-clause-reached
returns-clause-reached c = reached_with_ttl-from_carried

pub returns-clause-came_by_hops : goal.returns-clause-came_by_hops
returns-clause-came_by_hops c = λ n count t d x numbers last is travel.
    came_by_hops n count t numbers last is x d travel

pub returns-clause-path : goal.returns-clause-path
returns-clause-path c = λ n count t d hs net x numbers last is travel d_in by.
    let path = is_path-from_travel n count t numbers last is x d hs net travel d_in by in
    (path.0, path.1)

pub returns-clause-ttl_left : goal.returns-clause-ttl_left
returns-clause-ttl_left c = λ n count t d hs net x numbers last is travel d_in by.
    (is_path-from_travel n count t numbers last is x d hs net travel d_in by).2
