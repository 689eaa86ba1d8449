use Rattle.std.proofs.Common.{◌≡◌, ◌+◌, ◌*◌, ◌%◌, ◌≤◌, length}
use Rattle.std.specs.Prelude.{◌↔◌}
use Rattle.mc_igmp.specs.Checksum.{word_sum}
use Rattle.mc_igmp.proofs.checksum.sum_of_blocks.Given as goal

-- As in `sum_of_pairs`, with the bytes of each word of the sum swapped. A step takes sixteen bytes and adds
-- two numbers of 64 bits, less than 16 times 2 ^ 61, so that the sum stays small.
abbrev pub invariant-loop-rest : goal.invariant-loop-rest
invariant-loop-rest l = record {
  congruent : (256 * l.sum + word_sum l.rest) % 65535 ≡ word_sum l.piece % 65535;
  zero : (l.sum + word_sum l.rest ≡ 0) ↔ (word_sum l.piece ≡ 0);
  small : l.sum + 2305843009213693952 * length l.rest ≤ 2305843009213693952 * length l.piece;
}

abbrev pub decreases-loop-rest : goal.decreases-loop-rest
decreases-loop-rest l = length l.rest
