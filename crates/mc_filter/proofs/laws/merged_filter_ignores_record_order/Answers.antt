use Rattle.mc_filter.proofs.MergedLemmas.{merged_in_any_order}
use Rattle.mc_filter.proofs.laws.merged_filter_ignores_record_order.Goals as goal

-- A permutation has the same records, so that it has the same union of INCLUDE lists and intersection
-- of EXCLUDE lists; and an ascending list is known by its addresses.
pub returns : goal.returns
returns c = merged_in_any_order
