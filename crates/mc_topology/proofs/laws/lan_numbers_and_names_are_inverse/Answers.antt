use Rattle.mc_topology.proofs.NameLemmas.{index_of-lan_name, lan_name-index_of}
use Rattle.mc_topology.proofs.laws.lan_numbers_and_names_are_inverse.Goals as goal

-- No two LANs have one name, so that the first with the name is the one that it was taken from.
pub returns-clause-number_of_name : goal.returns-clause-number_of_name
returns-clause-number_of_name c = λ t lan name is e. index_of-lan_name t.lans lan name is.lan_names e

-- The place that a search for a name answers has that name.
pub returns-clause-name_of_number : goal.returns-clause-name_of_number
returns-clause-name_of_number c = λ t lan name e. lan_name-index_of t.lans lan name e
