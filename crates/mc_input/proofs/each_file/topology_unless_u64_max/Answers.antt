use Rattle.mc_input.proofs.each_file.topology_unless_u64_max.Goals as goal

-- Where no call is made the answer is `Read`, of which nothing is claimed.
pub returns-clause-topology : goal.returns-clause-topology
returns-clause-topology g c = c.topology_in.ensures.topology
