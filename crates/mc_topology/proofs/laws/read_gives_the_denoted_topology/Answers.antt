use Rattle.mc_topology.proofs.ReadLemmas.{DenotesTopology-unique}
use Rattle.mc_topology.proofs.TopologyTexts.{parse_unbounded_topology-denotes}
use Rattle.mc_topology.proofs.TopologyTexts.{parse_unbounded_topology-from_denotes}
use Rattle.mc_topology.proofs.TopologyTexts.{parse_topology-denotes, parse_topology-from_denotes}
use Rattle.mc_topology.proofs.laws.read_gives_the_denoted_topology.Goals as goal

-- Each step of reading succeeds exactly where its part of the denotation holds, and gives what that
-- denotes.
pub returns-clause-unbounded : goal.returns-clause-unbounded
returns-clause-unbounded c =
    λ text t. (
      (λ e. parse_unbounded_topology-denotes text t e),
      λ denotes. parse_unbounded_topology-from_denotes text t denotes,
    )

-- The bounds are tested before the text is parsed, and are the same on both sides.
pub returns-clause-read : goal.returns-clause-read
returns-clause-read c =
    λ text t. ((λ e. parse_topology-denotes text t e), λ is. parse_topology-from_denotes text t is)

-- Reading is a function of the text, and gives whatever the text denotes.
pub returns-clause-unique : goal.returns-clause-unique
returns-clause-unique c = DenotesTopology-unique
