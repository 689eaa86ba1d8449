use Rattle.std.proofs.Common.{◌≡◌, filter}
use Rattle.mc_theory.specs.Lists.{below}
use Rattle.mc_forward.specs.Domains.{wants_of}
use Rattle.mc_shown.proofs.wanted.lans_wanting.Given as goal

-- the list has the LANs so far that want the flow
abbrev pub invariant-loop-number : goal.invariant-loop-number
invariant-loop-number l =
    l.lans.items ≡ filter (wants_of l.view.domain l.view.flow) (below l.number)
