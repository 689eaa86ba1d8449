use Rattle.std.proofs.Common.{◌≡◌, ℕ, List, map, filter, take}
use Rattle.mc_igmp.specs.declared.record.Record.{Record}
use Rattle.mc_asked.specs.Answers.{class_of}
use Rattle.mc_asked.specs.Indexes.{IsIndexOfWantedGroups}
use Rattle.mc_asked.specs.ClassifiedWants.{is_asked_class, is_service_class}
use Rattle.mc_asked.proofs.classified_wants.classify.Given as goal

-- Each list has those of the wants so far that are of its class, where the index is as required.
abbrev pub invariant-loop-want : goal.invariant-loop-want
invariant-loop-want l = (records : List Record) →
    IsIndexOfWantedGroups l.fn.answers.flows records l.fn.wanted_groups →
    (l.classified.asked.items ≡ filter (λ want. is_asked_class (class_of l.fn.answers l.fn.lan records want))
    (take l.want-index l.fn.wants))
    × (l.classified.services.items ≡ map (λ (want : ℕ × ℕ). want.0)
    (filter (λ want. is_service_class (class_of l.fn.answers l.fn.lan records want))
    (take l.want-index l.fn.wants)))
