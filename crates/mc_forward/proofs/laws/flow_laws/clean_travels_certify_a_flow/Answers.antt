use Rattle.std.proofs.Common.{length}
use Rattle.mc_forward.specs.Domains.{net_of}
use Rattle.mc_forward.proofs.laws.flow_laws.clean_travels_certify_a_flow.Goals as goal

-- A domain's net is one, its wanting LANs are the topology's, and the flow's TTL is from 1 to 255,
-- which is all that the theorem asks of them.
pub returns : goal.returns
returns c = λ d flow ok lt.
    c.clean_travels_certify.ensures (net_of d flow) (length d.topology.lans)
    (c.domains_are_nets.ensures.net d flow ok) (c.domains_are_nets.ensures.wanting d flow ok)
    (c.domains_are_nets.ensures.ttl_from d flow ok lt)
    (c.domains_are_nets.ensures.ttl_to d flow ok lt)
