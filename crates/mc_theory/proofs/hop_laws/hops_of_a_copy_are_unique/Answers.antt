-- Since a row has one pair for a vif, and a LAN one first copy.
use Rattle.mc_theory.proofs.Hops.{came_by_hops-unique, came_from_lan-unique, is_hop-unique}
use Rattle.mc_theory.proofs.Hops.{sent_by_hop-unique}
use Rattle.mc_theory.proofs.hop_laws.hops_of_a_copy_are_unique.Goals as goal

pub returns-clause-came_by_hops : goal.returns-clause-came_by_hops
returns-clause-came_by_hops c = came_by_hops-unique

pub returns-clause-came_from_lan : goal.returns-clause-came_from_lan
returns-clause-came_from_lan c = came_from_lan-unique

pub returns-clause-hop : goal.returns-clause-hop
returns-clause-hop c = is_hop-unique

pub returns-clause-sent_by_hop : goal.returns-clause-sent_by_hop
returns-clause-sent_by_hop c = sent_by_hop-unique
