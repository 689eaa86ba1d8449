use Rattle.std.proofs.Common.{◌≡◌, length, map, take}
use Rattle.mc_asked.specs.AskedLines.{wants_of_lans}
use Rattle.mc_asked.specs.PairParts.{with_parts}
use Rattle.mc_asked.proofs.asked_lines.with_lans.Given as goal

-- There is a line for each want, with those of the LANs so far that have the want.
abbrev pub invariant-loop-number : goal.invariant-loop-number
invariant-loop-number l = record {
  count : length l.lines.items ≡ length l.fn.wants;
  lines : l.lines.items ≡ map (with_parts (wants_of_lans (take l.number l.fn.lans))) l.fn.wants;
}
