use Rattle.std.proofs.Common.{take, flat_map}
use Rattle.std.specs.Fmt.{HasWritten, IsPlainFormatter}
use Rattle.mc_shown.specs.AskedText.{address_after_space}
use Rattle.mc_shown.proofs.asked.asked_text.ShownAddressesDisplay.fmt.Given as goal

-- the addresses so far are written
abbrev pub invariant-loop-address : goal.invariant-loop-address
invariant-loop-address g l =
    IsPlainFormatter l.initial.f
    → HasWritten g.W.Write.write_str_gives l.initial.f
    (flat_map address_after_space (take l.address-index l.address-items)) l.f
