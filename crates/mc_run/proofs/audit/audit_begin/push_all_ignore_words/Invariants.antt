use Rattle.std.proofs.Common.{◌≡◌, ◌++◌, flat_map, map, take}
use Rattle.std.specs.String.{string_bytes}
use Rattle.mc_run.specs.AuditBegin.{ignore_words}
use Rattle.mc_run.proofs.audit.audit_begin.push_all_ignore_words.Given as goal

-- the words of the first ranges
abbrev pub invariant-loop-range : goal.invariant-loop-range
invariant-loop-range l =
    map string_bytes l.words.items ≡ map string_bytes l.initial.words.items
    ++ flat_map ignore_words (take l.range-index l.ranges)
