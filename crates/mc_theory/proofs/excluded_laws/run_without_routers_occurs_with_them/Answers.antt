-- By induction over the picks.
use Rattle.mc_theory.proofs.ExcludedRouters.{same_copies_and_strays-in_whole_net}
use Rattle.mc_theory.proofs.excluded_laws.run_without_routers_occurs_with_them.Goals as goal

pub returns : goal.returns
returns c = same_copies_and_strays-in_whole_net
