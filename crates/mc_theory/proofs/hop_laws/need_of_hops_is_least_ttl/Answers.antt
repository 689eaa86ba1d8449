-- By the tree that the travel makes.
use Rattle.mc_theory.proofs.LeastTtl.{reached_with_ttl-iff_need, has_entry_with_need-travel}
use Rattle.mc_theory.proofs.LeastTtl.{reached_with_ttl-iff_need_in_tree}
use Rattle.mc_theory.proofs.hop_laws.need_of_hops_is_least_ttl.Goals as goal

pub returns-clause-least : goal.returns-clause-least
returns-clause-least c = λ n count d hs net numbers last is travel d_in by t.
    reached_with_ttl-iff_need n count numbers last is d hs t net travel d_in by

pub returns-clause-entry : goal.returns-clause-entry
returns-clause-entry c = λ n count d hs net numbers last is travel.
    has_entry_with_need-travel n count numbers last is d hs net travel

pub returns-clause-of_any_path : goal.returns-clause-of_any_path
returns-clause-of_any_path c = λ n es hs l tree path through t.
    reached_with_ttl-iff_need_in_tree n es hs l t tree path through
