use Rattle.std.proofs.Common.{◌≡◌, length, map, take}
use Rattle.mc_asked.specs.AskedLines.{services_of_lans}
use Rattle.mc_asked.specs.PairParts.{with_parts}
use Rattle.mc_asked.proofs.asked_lines.with_service_lans.Given as goal

-- There is a line for each service, with those of the LANs so far that ask for it.
abbrev pub invariant-loop-number : goal.invariant-loop-number
invariant-loop-number l = record {
  count : length l.lines.items ≡ length l.fn.services;
  lines : l.lines.items ≡ map (with_parts (services_of_lans (take l.number l.fn.lans))) l.fn.services;
}
