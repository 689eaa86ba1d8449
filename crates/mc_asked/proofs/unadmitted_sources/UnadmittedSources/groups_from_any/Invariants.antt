use Rattle.std.proofs.Common.{◌≡◌, map, take}
use Rattle.mc_asked.specs.WantSources.{WantSourcesValue, groups_from_any}
use Rattle.mc_asked.proofs.unadmitted_sources.UnadmittedSources.groups_from_any.Given as goal

-- The groups are those of the shared wants of any source so far.
abbrev pub invariant-loop-want : goal.invariant-loop-want
invariant-loop-want l =
    l.groups.items ≡ groups_from_any (map (λ (s : WantSourcesValue). s.want) l.fn.self)
    (take l.want-index l.want-items)
