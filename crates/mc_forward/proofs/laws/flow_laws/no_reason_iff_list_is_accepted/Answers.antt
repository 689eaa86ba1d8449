use Rattle.std.proofs.Common.{length}
use Rattle.mc_forward.specs.Domains.{net_of}
use Rattle.mc_forward.proofs.laws.flow_laws.no_reason_iff_list_is_accepted.Goals as goal

-- A domain's net is one and its wanting LANs are the topology's, so that no reason overlooks a LAN.
pub returns : goal.returns
returns c = λ d flow es ok.
    c.no_reason_iff_accepted.ensures (net_of d flow) (length d.topology.lans) es
    (c.domains_are_nets.ensures.net d flow ok) (c.domains_are_nets.ensures.wanting d flow ok)
