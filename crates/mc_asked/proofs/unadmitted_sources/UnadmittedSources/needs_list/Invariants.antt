use Rattle.std.proofs.Common.{◌≡◌, false, map, take}
use Rattle.std.specs.List.{list_any}
use Rattle.mc_asked.specs.WantSources.{WantSourcesValue, is_shared_any}
use Rattle.mc_asked.proofs.unadmitted_sources.UnadmittedSources.needs_list.Given as goal

-- None of the wants so far is shared.
abbrev pub invariant-loop-want : goal.invariant-loop-want
invariant-loop-want l =
    list_any (is_shared_any (map (λ (s : WantSourcesValue). s.want) l.fn.self))
    (take l.want-index l.want-items) ≡ false
