use Rattle.mc_asked.proofs.LawLemmas.{any-by_merged_filter, single-by_merged_filter}
use Rattle.mc_asked.proofs.laws.wants_are_those_of_merged_filters.Goals as goal

-- The merged filter is EXCLUDE exactly where some record for the group is, and such a record asks for any
-- source.
pub returns-clause-any : goal.returns-clause-any
returns-clause-any c = any-by_merged_filter

-- A single source is asked for by an INCLUDE record, which lists it, and no EXCLUDE record is for the
-- group: so the merged filter is INCLUDE and has the source.
pub returns-clause-single : goal.returns-clause-single
returns-clause-single c = single-by_merged_filter
