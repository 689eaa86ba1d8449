use Rattle.std.proofs.Common.{arith}
use Rattle.mc_igmp.proofs.ChecksumLemmas.{word_sum-take_drop}
use Rattle.mc_igmp.proofs.checksum.split_piece.Goals as goal

-- A piece has an even length.
pub returns-clause-words : goal.returns-clause-words
returns-clause-words c =
    let parts = word_sum-take_drop 65536 c.args.message.now (λ _. omega arith) in
    let front = c.split_at.ensures.front in
    rw c.split_at.ensures.back (omega (arith, rw (← front) at parts))
