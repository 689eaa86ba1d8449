use Rattle.std.proofs.Common.{◌≡◌, ◌++◌}
use Rattle.mc_asked.proofs.IndexLemmas.{excluded_numbers}
use Rattle.mc_asked.proofs.wants.excluded_groups_of.Given as goal

-- The groups of the EXCLUDE records so far, and of those to come, are those of all.
abbrev pub invariant-loop-group_record : goal.invariant-loop-group_record
invariant-loop-group_record l =
    l.numbers.items ++ excluded_numbers l.group_record-iterator ≡ excluded_numbers l.fn.records
