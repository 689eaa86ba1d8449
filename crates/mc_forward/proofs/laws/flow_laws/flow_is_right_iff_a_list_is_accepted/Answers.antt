use Rattle.mc_forward.specs.Domains.{net_of}
use Rattle.mc_forward.proofs.laws.flow_laws.flow_is_right_iff_a_list_is_accepted.Goals as goal

-- A domain's net is one and the flow's TTL is from 1 to 255, which is all that the theorem asks of
-- them.
pub returns : goal.returns
returns c = λ d flow ok lt.
    c.certificate_exists_iff_flow_is_right.ensures (net_of d flow)
    (c.domains_are_nets.ensures.net d flow ok)
    (c.domains_are_nets.ensures.ttl_from d flow ok lt)
    (c.domains_are_nets.ensures.ttl_to d flow ok lt)
