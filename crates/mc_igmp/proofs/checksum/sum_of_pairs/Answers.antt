-- Two words, as a number of 32 bits, are 65,536 times the first plus
-- the second: their sum, but for 65,535 times the first.
use Rattle.std.proofs.Common.{arith, length-drop}
use Rattle.std.proofs.lemmas.List.{take_rest}
use Rattle.mc_igmp.proofs.ChecksumLemmas.{word_sum-eight}
use Rattle.mc_igmp.proofs.checksum.sum_of_pairs.Goals as goal

pub loop-rest-preserved : goal.loop-rest-preserved
loop-rest-preserved c =
    let words = word_sum-eight c.loop-rest.rest.now c.in-len8-up.len_at_least in
    rw (take_rest c.loop-rest.rest.now 8) (record {
      congruent = omega (arith, words);
      zero = grind (arith, words);
      small = omega (arith, length-drop 8 c.loop-rest.rest.now);
    })
