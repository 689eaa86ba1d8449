use Rattle.mc_forward.proofs.DomainLemmas.{is_net-net_of, wants-below_lan_count}
use Rattle.mc_forward.proofs.DomainLemmas.{source-below_lan_count, ttl-at_least_1}
use Rattle.mc_forward.proofs.DomainLemmas.{ttl-at_most_255}
use Rattle.mc_forward.proofs.laws.domains_are_nets.Goals as goal

-- A domain's topology is valid, which bounds its LANs and TTLs, and its tables are, which bounds vifs
-- and thresholds.
pub returns : goal.returns
returns c = record {
  net = is_net-net_of;
  wanting = λ d flow ok lan. wants-below_lan_count d flow lan ok;
  source = source-below_lan_count;
  ttl_from = ttl-at_least_1;
  ttl_to = ttl-at_most_255;
}
