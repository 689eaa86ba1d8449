use Rattle.std.proofs.Common.{◌≡◌, ◌++◌, drop, flat_map}
use Rattle.std.specs.String.{string_bytes}
use Rattle.mc_shown.specs.ExcludedText.{excluded_line}
use Rattle.mc_shown.proofs.excluded.excluded_text.push_excluded_routers.Given as goal

-- the lines so far, and those of the routers that are left, are the lines of all
abbrev pub invariant-loop-router : goal.invariant-loop-router
invariant-loop-router l =
    string_bytes l.text ++ flat_map (excluded_line l.topology) (drop l.router-index l.routers)
    ≡ string_bytes l.initial.text ++ flat_map (excluded_line l.topology) l.routers
