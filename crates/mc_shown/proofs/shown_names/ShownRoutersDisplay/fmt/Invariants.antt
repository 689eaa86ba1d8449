use Rattle.std.proofs.Common.{take, flat_map}
use Rattle.std.specs.Fmt.{HasWritten, IsPlainFormatter}
use Rattle.mc_shown.specs.ShownNames.{router_after_space}
use Rattle.mc_shown.proofs.shown_names.ShownRoutersDisplay.fmt.Given as goal

-- the names so far are written
abbrev pub invariant-loop-router : goal.invariant-loop-router
invariant-loop-router g l =
    IsPlainFormatter l.initial.f
    → HasWritten g.W.Write.write_str_gives l.initial.f
    (flat_map (router_after_space l.fn.self.topology.now) (take l.router-index l.router-items)) l.f
