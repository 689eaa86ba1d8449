use Rattle.std.proofs.Common.{take, flat_map}
use Rattle.std.specs.Fmt.{HasWritten, IsPlainFormatter}
use Rattle.mc_shown.specs.ShownNames.{lan_after_space}
use Rattle.mc_shown.proofs.shown_names.ShownLansDisplay.fmt.Given as goal

-- the names so far are written
abbrev pub invariant-loop-lan : goal.invariant-loop-lan
invariant-loop-lan g l =
    IsPlainFormatter l.initial.f
    → HasWritten g.W.Write.write_str_gives l.initial.f
    (flat_map (lan_after_space l.fn.self.topology.now) (take l.lan-index l.lan-items)) l.f
