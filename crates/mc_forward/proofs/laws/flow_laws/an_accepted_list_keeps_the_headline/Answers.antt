use Rattle.mc_forward.specs.Domains.{net_of}
use Rattle.mc_forward.proofs.laws.flow_laws.an_accepted_list_keeps_the_headline.Goals as goal

-- A domain's net is one and the flow's TTL is at least 1, which is all that the theorem asks of them.
pub returns : goal.returns
returns c = λ d flow es ok lt accepted.
    c.accepted_flow_keeps_headline.ensures (net_of d flow) es (c.domains_are_nets.ensures.net d flow ok)
    (c.domains_are_nets.ensures.ttl_from d flow ok lt) accepted
