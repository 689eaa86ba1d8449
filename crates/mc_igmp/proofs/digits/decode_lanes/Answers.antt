use Rattle.std.proofs.Common.{◌*◌, sym, ◌∙◌}
use Rattle.mc_igmp.proofs.DecodedLemmas.{decode_of-non_digit_chunk, decoded_more}
use Rattle.mc_igmp.proofs.digits.decode_lanes.Goals as goal

-- Digits are decoded only if all of them are hexadecimal, and these 32 aren't.
pub returns-then-not-are_hex_digits-clause-only : goal.returns-then-not-are_hex_digits-clause-only
returns-then-not-are_hex_digits-clause-only c refused =
    decode_of-non_digit_chunk c.args.digits.now (2 * c.args.at) 32
    (sym c.are_hex_digits.ensures ∙ c.if-not-are_hex_digits.true)

-- The sixteen bytes are those of the next 32 digits.
pub returns-clause-found : goal.returns-clause-found
returns-clause-found c taken decoded =
    let digits = sym c.are_hex_digits.ensures ∙ c.if-not-are_hex_digits.false in
    decoded_more 16 c.args.digits.now c.args.bytes.now c.bytes_of_hex_digits.result c.args.at
    c.requires.digits
    c.requires.room digits (c.bytes_of_hex_digits.ensures digits) decoded
