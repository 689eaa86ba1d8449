-- By each hop.
use Rattle.mc_theory.proofs.Paths.{passes_hops-iff_need}
use Rattle.mc_theory.proofs.path_laws.packet_passes_iff_ttl_meets_need.Goals as goal

pub returns : goal.returns
returns c = passes_hops-iff_need
