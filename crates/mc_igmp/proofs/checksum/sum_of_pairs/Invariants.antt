use Rattle.std.proofs.Common.{◌≡◌, ◌+◌, ◌*◌, ◌%◌, ◌≤◌, length}
use Rattle.std.specs.Prelude.{◌↔◌}
use Rattle.mc_igmp.specs.Checksum.{word_sum}
use Rattle.mc_igmp.proofs.checksum.sum_of_pairs.Given as goal

-- As in `ones_complement_sum`. A step takes eight bytes and adds two numbers of 32 bits, less than 8 times
-- 1,073,741,824, so that the sum stays small.
abbrev pub invariant-loop-rest : goal.invariant-loop-rest
invariant-loop-rest l = record {
  congruent : (l.sum + word_sum l.rest) % 65535 ≡ word_sum l.piece % 65535;
  zero : (l.sum + word_sum l.rest ≡ 0) ↔ (word_sum l.piece ≡ 0);
  small : l.sum + 1073741824 * length l.rest ≤ 1073741824 * length l.piece;
}

abbrev pub decreases-loop-rest : goal.decreases-loop-rest
decreases-loop-rest l = length l.rest
