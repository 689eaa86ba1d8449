use Rattle.std.proofs.Common.{◌≡◌, flat_map, take}
use Rattle.mc_asked.specs.AskedLines.{service_pairs}
use Rattle.mc_asked.proofs.asked_lines.all_service_pairs.Given as goal

-- The pairs are the services of the LANs so far.
abbrev pub invariant-loop-own : goal.invariant-loop-own
invariant-loop-own l = l.pairs.items ≡ flat_map service_pairs (take l.own-index l.fn.lans)
