use Rattle.std.proofs.Common.{length}
use Rattle.mc_forward.specs.Domains.{net_of}
use Rattle.mc_forward.proofs.laws.flow_laws.finding_shows_that_a_flow_is_wrong.Goals as goal

-- A domain's net is one and its wanting LANs are the topology's, which is all that the theorem asks of
-- it.
pub returns : goal.returns
returns c = λ d flow t x ok low high other.
    c.non_clean_finding_means_a_wrong_flow.ensures (net_of d flow) (length d.topology.lans) t x
    (c.domains_are_nets.ensures.net d flow ok) (c.domains_are_nets.ensures.wanting d flow ok) low high other
