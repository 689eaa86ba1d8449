-- Hop by hop.
use Rattle.mc_theory.proofs.Hops.{is_path_part-push, came_by_hops-from_whole_path_part}
use Rattle.mc_theory.proofs.Hops.{came_from_lan-path_part_and_hop, came_by_hops-path_part_and_rest}
use Rattle.mc_theory.proofs.Hops.{end_of_path_part-in_copies, is_path_part-fewer_than_copies}
use Rattle.mc_theory.proofs.hop_laws.walk_back_finds_the_hops.Goals as goal

pub returns-clause-next_hop : goal.returns-clause-next_hop
returns-clause-next_hop c =
    λ n cs d b first hs h part sent on. is_path_part-push n cs d hs b h first part sent on

pub returns-clause-ends_at_source : goal.returns-clause-ends_at_source
returns-clause-ends_at_source c = came_by_hops-from_whole_path_part

pub returns-clause-reaches_lan : goal.returns-clause-reaches_lan
returns-clause-reaches_lan c = λ n cs l d b hs h. came_from_lan-path_part_and_hop n cs l d hs b h

pub returns-clause-rest : goal.returns-clause-rest
returns-clause-rest c = came_by_hops-path_part_and_rest

pub returns-clause-carried : goal.returns-clause-carried
returns-clause-carried c = end_of_path_part-in_copies

pub returns-clause-fewer_than_copies : goal.returns-clause-fewer_than_copies
returns-clause-fewer_than_copies c = λ n count t d b hs x numbers last is travel.
    is_path_part-fewer_than_copies n count t numbers last is x d hs b travel
