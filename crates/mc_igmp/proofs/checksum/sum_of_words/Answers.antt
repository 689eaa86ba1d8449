use Rattle.std.proofs.Common.{arith}
use Rattle.std.proofs.lemmas.List.{take_rest, get_or_past}
use Rattle.mc_igmp.proofs.ChecksumLemmas.{word_sum-cons, word_sum-last, word_sum-bound}
use Rattle.mc_igmp.proofs.checksum.sum_of_words.Goals as goal

-- The words of a whole piece add up to less than 2 ^ 32.
pub overflow_add-sum-in-len2-up : goal.overflow_add-sum-in-len2-up
overflow_add-sum-in-len2-up c =
    let first = word_sum-cons c.loop-rest.rest.now c.in-len2-up.len_at_least in
    let bound = word_sum-bound c.args.piece.now (λ i. omega (arith, c.type_inv.piece i)) in
    omega (arith, first, bound)

-- The first word of the rest goes from the rest to the sum.
pub loop-rest-preserved : goal.loop-rest-preserved
loop-rest-preserved c =
    let first = word_sum-cons c.loop-rest.rest.now c.in-len2-up.len_at_least in
    rw (take_rest c.loop-rest.rest.now 2) (omega (arith, first))

-- An odd last byte is the high byte of a word of the piece, whose words add up to less than 2 ^ 32.
pub overflow_add-result : goal.overflow_add-result
overflow_add-result c =
    let last = word_sum-last c.loop-rest.rest.now (omega arith) in
    let bound = word_sum-bound c.args.piece.now (λ i. omega (arith, c.type_inv.piece i)) in
    omega (arith, last, bound)

-- The odd last byte is the last word.
pub returns-in-len1 : goal.returns-in-len1
returns-in-len1 c = record { value = omega (arith, word_sum-last c.loop-rest.rest.now (omega arith)) }

-- Nothing is left.
pub returns-in_default-rest : goal.returns-in_default-rest
returns-in_default-rest c = record {
  value = (
      let none = get_or_past c.loop-rest.rest.now 0 0 (omega arith) in
      omega (arith, word_sum-last c.loop-rest.rest.now (omega arith), none));
}
