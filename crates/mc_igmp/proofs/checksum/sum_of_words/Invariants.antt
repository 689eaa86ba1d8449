use Rattle.std.proofs.Common.{◌≡◌, ◌+◌, length}
use Rattle.mc_igmp.specs.Checksum.{word_sum}
use Rattle.mc_igmp.proofs.checksum.sum_of_words.Given as goal

-- The sum so far and the words of the rest are the words of the piece.
abbrev pub invariant-loop-rest : goal.invariant-loop-rest
invariant-loop-rest l = l.sum + word_sum l.rest ≡ word_sum l.piece

abbrev pub decreases-loop-rest : goal.decreases-loop-rest
decreases-loop-rest l = length l.rest
