-- By the hops in order: it is stopped at one only, since it gets through by those before.
use Rattle.mc_theory.proofs.StoppingHop.{is_stopped-from_need_above, need_above-from_stopped}
use Rattle.mc_theory.proofs.StoppingHop.{is_stopped-unique}
use Rattle.mc_theory.proofs.hop_laws.packet_below_need_stops_at_one_hop.Goals as goal

pub returns-clause-stopped : goal.returns-clause-stopped
returns-clause-stopped c = λ t hs low.
    (is_stopped-from_need_above t hs low, λ s. need_above-from_stopped t hs s.0 s.1 s.2)

pub returns-clause-one_hop : goal.returns-clause-one_hop
returns-clause-one_hop c = is_stopped-unique
