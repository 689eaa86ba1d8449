use Rattle.mc_cert.proofs.BelongsLemmas.{BelongsTo-from_denotes}
use Rattle.mc_cert.proofs.laws.denoted_certificate_belongs_to_topology.Goals as goal

-- A name denotes a LAN or a router of the topology alone, and there is a tree for each of its flows.
pub returns : goal.returns
returns c = BelongsTo-from_denotes
