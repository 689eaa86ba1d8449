-- Since the hops of a copy are.
use Rattle.mc_theory.proofs.ShownFrom.{need-unique}
use Rattle.mc_theory.proofs.shown_from_laws.need_of_finding_is_unique.Goals as goal

pub returns : goal.returns
returns c = need-unique
