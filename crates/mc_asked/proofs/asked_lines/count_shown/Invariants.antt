use Rattle.std.proofs.Common.{◌≡◌, ◌≤◌, ◌*◌, take}
use Rattle.mc_asked.specs.AskedLines.{count_shown}
use Rattle.mc_asked.proofs.asked_lines.count_shown.Given as goal

-- The count is that of the lines so far. Each line adds less than 2^64, so that the sum fits.
abbrev pub invariant-loop-line : goal.invariant-loop-line
invariant-loop-line l = record {
  so_far : l.count ≡ count_shown (take l.line-index l.lines);
  few : l.count ≤ l.line-index * 18446744073709551616;
}
