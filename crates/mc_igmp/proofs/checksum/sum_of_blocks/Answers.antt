-- 256 times a word whose bytes are swapped is the word, but for multiples of 65,535, and so is that times
-- each power of 65,536.
use Rattle.std.proofs.Common.{arith, length-drop}
use Rattle.std.proofs.lemmas.List.{take_rest}
use Rattle.mc_igmp.proofs.ChecksumLemmas.{word_sum-sixteen}
use Rattle.mc_igmp.proofs.checksum.sum_of_blocks.Goals as goal

pub loop-rest-preserved : goal.loop-rest-preserved
loop-rest-preserved c =
    let words = word_sum-sixteen c.loop-rest.rest.now c.in-len16-up.len_at_least in
    rw (take_rest c.loop-rest.rest.now 16) (record {
      congruent = omega (arith, words);
      zero = grind (arith, words);
      small = omega (arith, length-drop 16 c.loop-rest.rest.now);
    })
