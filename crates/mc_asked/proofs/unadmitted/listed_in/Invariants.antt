use Rattle.std.proofs.Common.{◌≡◌, ◌++◌, flat_map}
use Rattle.mc_asked.specs.Unadmitted.{listed_by}
use Rattle.mc_asked.proofs.unadmitted.listed_in.Given as goal

-- The pairs so far, and those of the records to come, are those of the whole list.
abbrev pub invariant-loop-group_record : goal.invariant-loop-group_record
invariant-loop-group_record l =
    l.pairs.items ++ flat_map (listed_by l.fn.groups) l.group_record-iterator
    ≡ flat_map (listed_by l.fn.groups) l.fn.list
