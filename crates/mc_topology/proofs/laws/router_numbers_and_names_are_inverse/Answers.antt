use Rattle.mc_topology.proofs.NameLemmas.{router_no_of-router_name, router_name-router_no_of}
use Rattle.mc_topology.proofs.laws.router_numbers_and_names_are_inverse.Goals as goal

-- No two routers have one name, so that the first with the name is the one that it was taken from.
pub returns-clause-number_of_name : goal.returns-clause-number_of_name
returns-clause-number_of_name c =
    λ t router name is e. router_no_of-router_name t.routers router name is.router_names e

-- The place that a search for a name answers has a router with that name.
pub returns-clause-name_of_number : goal.returns-clause-name_of_number
returns-clause-name_of_number c = λ t router name e. router_name-router_no_of t.routers router name e
