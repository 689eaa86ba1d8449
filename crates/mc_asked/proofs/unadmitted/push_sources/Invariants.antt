use Rattle.std.proofs.Common.{◌≡◌, ◌++◌, map}
use Rattle.mc_asked.proofs.unadmitted.push_sources.Given as goal

-- The pairs so far, and those of the sources to come, are the old pairs and those of the record.
abbrev pub invariant-loop-source : goal.invariant-loop-source
invariant-loop-source l =
    l.pairs.items ++ map (λ s. (l.fn.group_record.group, s)) l.source-iterator
    ≡ l.fn.pairs.items ++ map (λ s. (l.fn.group_record.group, s)) l.fn.group_record.sources
