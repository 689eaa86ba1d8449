use Rattle.std.proofs.Common.{◌≡◌, ◌≤◌, ◌*◌, take}
use Rattle.mc_asked.specs.AskedLines.{count_wants}
use Rattle.mc_asked.proofs.asked_lines.count_wants.Given as goal

-- The count is that of the LANs so far. Each LAN adds less than 2^64, so that the sum fits.
abbrev pub invariant-loop-own : goal.invariant-loop-own
invariant-loop-own l = record {
  so_far : l.count ≡ count_wants (take l.own-index l.lans);
  few : l.count ≤ l.own-index * 18446744073709551616;
}
