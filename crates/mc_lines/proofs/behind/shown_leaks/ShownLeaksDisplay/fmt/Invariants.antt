use Rattle.std.proofs.Common.{take, flat_map}
use Rattle.std.specs.Fmt.{HasWritten, IsPlainFormatter}
use Rattle.mc_forward.specs.ListedTables.{facts}
use Rattle.mc_lines.specs.BehindText.{leak_after_comma}
use Rattle.mc_lines.proofs.behind.shown_leaks.ShownLeaksDisplay.fmt.Given as goal

-- the interfaces so far are written
abbrev pub invariant-loop-stray : goal.invariant-loop-stray
invariant-loop-stray g l =
    IsPlainFormatter l.initial.f
    → HasWritten g.W.Write.write_str_gives l.initial.f
    (flat_map (leak_after_comma (facts l.fn.self.view.now.domain)) (take l.stray-index l.stray-items)) l.f
