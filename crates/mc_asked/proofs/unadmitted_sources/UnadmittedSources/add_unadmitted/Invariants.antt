use Rattle.std.proofs.Common.{◌≡◌, map, take}
use Rattle.mc_asked.specs.WantSources.{with_unadmitted_of}
use Rattle.mc_asked.proofs.unadmitted_sources.UnadmittedSources.add_unadmitted.Given as goal

-- The sources of the groups so far have been taken.
abbrev pub invariant-loop-group : goal.invariant-loop-group
invariant-loop-group l =
    l.self ≡ map (with_unadmitted_of (take l.group-index l.fn.groups) l.fn.unadmitted) l.fn.self
