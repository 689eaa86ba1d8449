use Rattle.std.proofs.Common.{◌≡◌, map, take}
use Rattle.mc_asked.specs.WantSources.{without_sources}
use Rattle.mc_asked.proofs.unadmitted_sources.without_sources.Given as goal

-- There is an entry without sources for each want so far.
abbrev pub invariant-loop-want : goal.invariant-loop-want
invariant-loop-want l = l.sources.items ≡ map without_sources (take l.want-index l.fn.wants)
