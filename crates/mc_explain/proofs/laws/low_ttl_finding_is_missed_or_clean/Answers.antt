-- A clean travel at TTL 255 makes a tree, and no run of a packet with a lower TTL leaves the tree: it
-- brings no second copy to a LAN, and none out of the domain.
use Rattle.mc_explain.proofs.CauseLemmas.{is_missed_or_clean-at_flow_ttl}
use Rattle.mc_explain.proofs.laws.low_ttl_finding_is_missed_or_clean.Goals as goal

pub returns : goal.returns
returns c = λ d flow greatest least e.
    is_missed_or_clean-at_flow_ttl d flow greatest least e.domain e.listed e.examined
