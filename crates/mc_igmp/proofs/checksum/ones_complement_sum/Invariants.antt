use Rattle.std.proofs.Common.{◌≡◌, ◌+◌, ◌%◌, ◌≤◌, length}
use Rattle.std.specs.Prelude.{◌↔◌}
use Rattle.mc_igmp.specs.Checksum.{word_sum}
use Rattle.mc_igmp.proofs.checksum.ones_complement_sum.Given as goal

-- The sum so far and the words of the rest are the words of the message, but for multiples of 65,535.
-- Both are 0 or neither is: modulo 65,535 alone, 0 and 65,535 would look alike.
abbrev pub invariant-loop-rest : goal.invariant-loop-rest
invariant-loop-rest l = record {
  bound : l.sum ≤ 65535;
  congruent : (l.sum + word_sum l.rest) % 65535 ≡ word_sum l.message % 65535;
  zero : (l.sum + word_sum l.rest ≡ 0) ↔ (word_sum l.message ≡ 0);
}

-- Each piece takes something off the rest.
abbrev pub decreases-loop-rest : goal.decreases-loop-rest
decreases-loop-rest l = length l.rest
