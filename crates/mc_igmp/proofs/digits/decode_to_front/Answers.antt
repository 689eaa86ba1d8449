use Rattle.std.proofs.Common.{◌/◌, ◌≡◌, length, take, Ok, ap, ◌∙◌, arith}
use Rattle.mc_igmp.proofs.DecodedLemmas.{decode_of-decoded_front}
use Rattle.mc_igmp.proofs.digits.decode_to_front.Goals as goal

-- All digits of the line were decoded ahead.
pub returns-then-are_all_decoded-clause-found : goal.returns-then-are_all_decoded-clause-found
returns-then-are_all_decoded-clause-found c = λ _.
    let digits = c.args.digits.now in
    let room = c.args.room.now in
    let twice = c.are_all_decoded.ensures c.if-are_all_decoded.true in
    let all : c.args.decoded ≡ length digits / 2 = omega (arith, twice) in
    decode_of-decoded_front digits room c.args.decoded (omega arith) twice
    c.requires.decoded ∙ ap (λ count. Ok (take count room)) all
