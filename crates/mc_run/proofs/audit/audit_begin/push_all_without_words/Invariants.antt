use Rattle.std.proofs.Common.{◌≡◌, ◌++◌, flat_map, map, take}
use Rattle.std.specs.String.{string_bytes}
use Rattle.mc_run.specs.AuditBegin.{without_words}
use Rattle.mc_run.proofs.audit.audit_begin.push_all_without_words.Given as goal

-- the words of the first routers
abbrev pub invariant-loop-router : goal.invariant-loop-router
invariant-loop-router l =
    map string_bytes l.words.items ≡ map string_bytes l.initial.words.items
    ++ flat_map (without_words l.topology) (take l.router-index l.routers)
