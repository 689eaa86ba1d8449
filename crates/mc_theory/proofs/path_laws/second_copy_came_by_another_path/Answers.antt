-- By its walk back.
use Rattle.std.proofs.Common.{◌≡◌, ◌∷◌, Some, sym, ◌∙◌, subst}
use Rattle.mc_theory.specs.Lists.{In}
use Rattle.mc_theory.specs.Flights.{start, run}
use Rattle.mc_theory.specs.Findings.{first_copy_on, handles}
use Rattle.mc_theory.specs.Paths.{IsPath}
use Rattle.mc_theory.proofs.WalkBack.{in-first_copy_on}
use Rattle.mc_theory.proofs.CameByHops.{came_by_hops-from_walk, is_rooted-from_travel}
use Rattle.mc_theory.proofs.CameByHops.{came_by_hops, is_path-from_travel, lan-first_copy_on}
use Rattle.mc_theory.proofs.CameByHops.{in-first_double}
use Rattle.mc_theory.proofs.Hops.{came_from_lan-from_came_by_hops, sent_by_hop-from_came_from_lan}
use Rattle.mc_theory.proofs.Hops.{is_path-from_came_from_lan, came_from_lan-fewer_than_copies}
use Rattle.mc_theory.proofs.SpareInterface.{distinct_senders-travel, earlier_copy-of_first_double}
use Rattle.mc_theory.proofs.SpareInterface.{first_and_double-other_senders}
use Rattle.mc_theory.proofs.path_laws.second_copy_came_by_another_path.Goals as goal

pub returns-clause-loop_came_back : goal.returns-clause-loop_came_back
returns-clause-loop_came_back c = λ n count t l x numbers last is travel shows.
    let cs = (run n (handles is) (start n t)).carried in
    let d = shows.0 in
    let r = is_rooted-from_travel n count t numbers last is x travel in
    let d_in = in-first_double cs d.copy d.first in
    let over = came_by_hops-from_walk n t cs d.copy d.walk r d_in d.back in
    let by = subst (λ ls. In l ls) (sym over.2) shows.1 in
    let on = came_from_lan-from_came_by_hops n cs l d.copy over.0 over.1 by in
    let hops = on.0 ∷ on.1 in
    record {
      second = d.copy;
      first_double = d.first;
      lan = d.lan;
      last_hop = on.0;
      sender = (sent_by_hop-from_came_from_lan n cs l d.copy on.0 on.1 on.2).0;
      before = on.1;
      closed = subst (IsPath n l hops) d.lan (is_path-from_came_from_lan n cs l d.copy hops on.2);
      came_by_hops = on.2;
      few = came_from_lan-fewer_than_copies n count t numbers last is x l d.copy hops travel d_in on.2;
    }

pub returns-clause-duplicate_came_twice : goal.returns-clause-duplicate_came_twice
returns-clause-duplicate_came_twice c = λ n count t l net x numbers last is travel shows.
    let cs = (run n (handles is) (start n t)).carried in
    let d = shows.0 in
    let c_in = in-first_double cs d.copy d.first in
    let r = is_rooted-from_travel n count t numbers last is x travel in
    let over = came_by_hops-from_walk n t cs d.copy d.walk r c_in d.back in
    let leads = (is_path-from_travel n count t numbers last is x d.copy over.0 net travel c_in over.1).0 in
    let a = earlier_copy-of_first_double cs d.copy d.first in
    let a_in = in-first_copy_on cs d.copy.lan a.0 a.1 in
    let path = came_by_hops n count t numbers last is x a.0 travel a_in in
    let first = (is_path-from_travel n count t numbers last is x a.0 path.0 net travel a_in path.1).0 in
    let once = distinct_senders-travel n count t numbers last is x net travel in
    record {
      first = a.0;
      second = d.copy;
      first_on = subst (λ k. first_copy_on cs k ≡ Some a.0) d.lan a.1;
      first_double = d.first;
      lan = d.lan;
      senders = first_and_double-other_senders cs d.copy a.0 once d.first a.1;
      first_path = path.0;
      first_came = path.1;
      first_leads = subst (IsPath n n.source path.0) (lan-first_copy_on cs d.copy.lan a.0 a.1 ∙ d.lan) first;
      second_path = over.0;
      second_came = over.1;
      second_leads = subst (IsPath n n.source over.0) d.lan leads;
      not_before = λ h. shows.1 (subst (λ ls. In l ls) over.2 h);
    }
