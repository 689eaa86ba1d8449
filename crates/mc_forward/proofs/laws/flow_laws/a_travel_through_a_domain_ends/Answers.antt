use Rattle.std.proofs.Common.{length}
use Rattle.mc_forward.specs.Domains.{net_of}
use Rattle.mc_forward.proofs.laws.flow_laws.a_travel_through_a_domain_ends.Goals as goal

-- A domain's net is one, and in a net a travel visits each placed interface at most once.
pub returns : goal.returns
returns c = λ d flow t choices picks x ok travel.
    c.a_travel_ends.ensures (net_of d flow) (length d.topology.lans) t choices.numbers choices.last picks x
    (c.domains_are_nets.ensures.net d flow ok) travel
