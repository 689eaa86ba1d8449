-- The pieces before end at the last one, or within it, so that it completes the digits.
use Rattle.std.proofs.Common.{◌+◌, ◌-◌, length, arith}
use Rattle.mc_igmp.proofs.DecodedLemmas.{decoded_fewer, decode_of-all_decoded}
use Rattle.mc_igmp.proofs.digits.decode_all.Goals as goal

pub returns-clause-found : goal.returns-clause-found
returns-clause-found c = λ taken.
    let last = length c.args.bytes.now - 16 in
    let before = decoded_fewer c.args.digits.now c.pieces.bytes last c.pieces.at (omega arith)
    c.pieces.invariant.decoded in
    decode_of-all_decoded c.args.digits.now c.decode_lanes-2.new.bytes (last + 16) (omega arith) (omega arith)
    (c.decode_lanes-2.ensures.found taken before)
