use Rattle.std.proofs.Common.{◌≡◌, ◌++◌, filter, flat_map, map, not}
use Rattle.mc_text.specs.Pair.{pair_of}
use Rattle.mc_tables.specs.Summary.{in_order}
use Rattle.mc_asked.specs.Answers.{is_answered}
use Rattle.mc_asked.specs.Indexes.{IsIndexOfWantedGroups}
use Rattle.mc_asked.specs.ListWants.{asked_by}
use Rattle.mc_asked.proofs.unanswered.unanswered_in.Given as goal

-- The unanswered wants so far and those of the records to come, put in order together, are those of the
-- whole list.
abbrev pub invariant-loop-group_record : goal.invariant-loop-group_record
invariant-loop-group_record l =
    IsIndexOfWantedGroups l.fn.answers.flows l.fn.list l.fn.wanted_groups →
    in_order (map pair_of l.unanswered
    ++ filter (λ want. not (is_answered l.fn.answers l.fn.list want))
    (flat_map asked_by l.group_record-iterator))
    ≡ in_order (filter (λ want. not (is_answered l.fn.answers l.fn.list want)) (flat_map asked_by l.fn.list))
