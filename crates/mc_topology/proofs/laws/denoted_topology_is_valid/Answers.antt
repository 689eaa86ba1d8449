use Rattle.mc_topology.proofs.Validity.{IsValidTopology-from_denotes}
use Rattle.mc_topology.proofs.laws.denoted_topology_is_valid.Goals as goal

-- Each rule of a topology is a premise of the denotation, or follows from the row's own.
pub returns : goal.returns
returns c = IsValidTopology-from_denotes
