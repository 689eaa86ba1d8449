use Rattle.mc_input.proofs.ExcludedPerFlowLemmas.{ExcludesRouters-from_files}
use Rattle.mc_input.proofs.laws.excluded_routers_are_excluded_in_each_flow.Goals as goal

-- All files but those of the excluded routers are the same.
pub returns : goal.returns
returns c = ExcludesRouters-from_files
