use Rattle.std.proofs.Common.{take, flat_map}
use Rattle.std.specs.Fmt.{HasWritten, IsPlainFormatter}
use Rattle.mc_shown.specs.AskedText.{service_after_space}
use Rattle.mc_shown.proofs.asked.asked_text.ShownServicesDisplay.fmt.Given as goal

-- the services so far are written
abbrev pub invariant-loop-service : goal.invariant-loop-service
invariant-loop-service g l =
    IsPlainFormatter l.initial.f
    → HasWritten g.W.Write.write_str_gives l.initial.f
    (flat_map service_after_space (take l.service-index l.service-items)) l.f
