use Rattle.mc_filter.specs.FilterBuilding.{BuildsFilter}
use Rattle.mc_filter.proofs.wants.wants_of.Given as goal

-- The builder has what the records that were given so far want; those that the iterator still has are
-- left.
abbrev pub invariant-loop-group_record : goal.invariant-loop-group_record
invariant-loop-group_record l = BuildsFilter l.fn.reports l.fn.group l.filter_builder l.group_record-iterator
