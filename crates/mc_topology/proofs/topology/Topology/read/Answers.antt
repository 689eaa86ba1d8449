use Rattle.mc_topology.proofs.ReadLemmas.{denotes-unless_out_of_memory, Ok-unless_out_of_memory}
use Rattle.mc_topology.proofs.topology.Topology.read.Goals as goal

-- Where memory lasts the answer is that of the definition, which gives a topology only where the text
-- denotes it.
pub returns-clause-found : goal.returns-clause-found
returns-clause-found c =
    denotes-unless_out_of_memory c.args.text.now c.parse_topology.result c.parse_topology.ensures

-- Where memory lasts the answer is that of the definition, which gives what the text denotes.
pub returns-clause-only : goal.returns-clause-only
returns-clause-only c = Ok-unless_out_of_memory c.args.text.now c.parse_topology.result
    c.parse_topology.ensures
