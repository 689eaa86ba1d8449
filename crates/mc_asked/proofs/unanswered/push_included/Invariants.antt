use Rattle.std.proofs.Common.{◌≡◌, ℕ, ◌++◌, List, filter, map, not}
use Rattle.mc_text.specs.Pair.{pair_of}
use Rattle.mc_igmp.specs.declared.record.Record.{Record}
use Rattle.mc_tables.specs.Summary.{in_order}
use Rattle.mc_asked.specs.Answers.{is_answered}
use Rattle.mc_asked.specs.Indexes.{IsIndexOfWantedGroups}
use Rattle.mc_asked.specs.ListWants.{included_in}
use Rattle.mc_asked.proofs.unanswered.push_included.Given as goal

-- The numbers so far, and those of the sources to come, are the old ones and those of the record.
abbrev pub invariant-loop-source : goal.invariant-loop-source
invariant-loop-source l = (records : List Record) →
    IsIndexOfWantedGroups l.fn.answers.flows records l.fn.wanted_groups → (others : List (ℕ × ℕ)) →
    in_order (map pair_of l.unanswered ++ (filter (λ want. not (is_answered l.fn.answers records want))
    (included_in l.fn.group_record.group l.source-iterator) ++ others))
    ≡ in_order (map pair_of l.fn.unanswered ++ (filter (λ want. not (is_answered l.fn.answers records want))
    (included_in l.fn.group_record.group l.fn.group_record.sources) ++ others))
