use Rattle.std.proofs.Common.{◌≡◌, flat_map, take}
use Rattle.mc_asked.specs.LanWants.{LanWantsValue}
use Rattle.mc_asked.proofs.asked_lines.kept_wants_of.Given as goal

-- The wants are those that are kept of the LANs so far.
abbrev pub invariant-loop-own : goal.invariant-loop-own
invariant-loop-own l =
    l.wants.items ≡ flat_map (λ (own : LanWantsValue). own.lowest) (take l.own-index l.fn.lans)
