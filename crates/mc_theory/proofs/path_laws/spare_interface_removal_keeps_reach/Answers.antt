-- A path that uses the interface can go by the first copy's path instead.
use Rattle.mc_theory.specs.Paths.{take_out}
use Rattle.mc_theory.proofs.Paths.{reached_with_ttl-from_carried}
use Rattle.mc_theory.proofs.EachHearerForwards.{carried-from_path}
use Rattle.mc_theory.proofs.SpareInterface.{is_spare_interface-exists, is_path-without_spare}
use Rattle.mc_theory.proofs.SpareInterface.{path_without-spare, path_without-as_good}
use Rattle.mc_theory.proofs.SpareInterface.{is_net-take_out}
use Rattle.mc_theory.proofs.path_laws.spare_interface_removal_keeps_reach.Goals as goal

pub returns-clause-one_exists : goal.returns-clause-one_exists
returns-clause-one_exists c = λ n count t d x numbers last is travel.
    is_spare_interface-exists n count t numbers last is x d travel

pub returns-clause-first_path_kept : goal.returns-clause-first_path_kept
returns-clause-first_path_kept c = λ n count t d i hs net x numbers last is travel s.
    (is_path-without_spare n count t numbers last is x d i hs net travel s).1

pub returns-clause-reach_kept : goal.returns-clause-reach_kept
returns-clause-reach_kept c = λ n count t d i hs m net x numbers last is travel s reached.
    let j = path_without-spare n count t numbers last is x d i hs net travel s reached.0 m reached.1 in
    (j.0, j.1)

pub returns-clause-ttl_reach_kept : goal.returns-clause-ttl_reach_kept
returns-clause-ttl_reach_kept c = λ n count high t d i hs net is x travel s least le m reached.
    let good = path_without-as_good n count high is x d i hs t net travel s least le in
    let j = good reached.0 m reached.1 in
    (j.0, j.1, (j.2 reached.2).0)

pub returns-clause-delivery_kept : goal.returns-clause-delivery_kept
returns-clause-delivery_kept c = λ n count high t d i hs net is x travel s least le ps qs m complete h.
    let w = reached_with_ttl-from_carried n t ps m h in
    let j = path_without-as_good n count high is x d i hs t net travel s least le w.0 m w.1 in
    carried-from_path (take_out i n) t qs j.0 m (is_net-take_out n i net) complete.in_range complete.lossless
    complete.none_waits j.1 (j.2 w.2).0

pub returns-clause-is_net : goal.returns-clause-is_net
returns-clause-is_net c = is_net-take_out
