use Rattle.mc_files.proofs.PackLemmas.{IsPacked-from_packed_parts, packed_parts-Ok, IsPacked-unique}
use Rattle.mc_files.proofs.laws.packing_is_exact_and_unique.Goals as goal

-- Each step of packing tests one rule of the relation, and gives a fault only where that is broken.
pub returns-clause-exact : goal.returns-clause-exact
returns-clause-exact c = λ files certified parts. (
  λ e. IsPacked-from_packed_parts files certified parts e,
  λ is. packed_parts-Ok files certified parts is,
)

-- A topology's text denotes one topology, and each slot's file has one content.
pub returns-clause-unique : goal.returns-clause-unique
returns-clause-unique c = λ files certified ps qs p q. IsPacked-unique files certified ps qs p q
