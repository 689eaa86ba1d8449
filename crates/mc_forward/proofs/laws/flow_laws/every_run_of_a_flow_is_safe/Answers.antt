use Rattle.mc_forward.specs.Domains.{net_of}
use Rattle.mc_forward.proofs.laws.flow_laws.every_run_of_a_flow_is_safe.Goals as goal

-- A domain's net is one, which is all that the theorem asks of it.
pub returns : goal.returns
returns c = λ d flow es ok tree. c.every_run_is_safe.ensures (net_of d flow) es
    (c.domains_are_nets.ensures.net d flow ok) tree
