-- A LAN has one first copy, a flight one first double copy, and each copy one path: so there is one list of
-- causes.
use Rattle.mc_forward.proofs.DomainLemmas.{is_net-net_of}
use Rattle.mc_explain.proofs.UniqueCauseLemmas.{causes-are_unique}
use Rattle.mc_explain.proofs.laws.causes_are_unique.Goals as goal

pub returns : goal.returns
returns c = λ d flow examined_flights causes others ok p q.
    causes-are_unique d flow examined_flights causes others (is_net-net_of d flow ok) p q
