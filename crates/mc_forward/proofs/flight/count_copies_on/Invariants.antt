use Rattle.std.proofs.Common.{◌≡◌, ◌+◌, ◌≤◌, min, drop}
use Rattle.mc_theory.specs.Flights.{copy_count_on}
use Rattle.mc_forward.proofs.flight.count_copies_on.Given as goal

-- The count so far and the copies that are left make up the number of all copies, up to the largest
-- number of 32 bits.
abbrev pub invariant-loop-copy : goal.invariant-loop-copy
invariant-loop-copy l = record {
  fits : l.count ≤ 4294967295;
  counted : min (l.count + copy_count_on (drop l.copy-index l.fn.carried) l.fn.lan) 4294967295
      ≡ min (copy_count_on l.fn.carried l.fn.lan) 4294967295;
}
