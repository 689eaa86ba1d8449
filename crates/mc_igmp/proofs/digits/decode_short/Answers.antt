use Rattle.std.proofs.Common.{◌*◌, ◌-◌, length, sym, ◌∙◌}
use Rattle.mc_igmp.proofs.DecodedLemmas.{decode_of-short, decode_of-non_digit_short}
use Rattle.mc_igmp.proofs.digits.decode_short.Goals as goal

-- The lanes hold each digit of the text, and one of them isn't hexadecimal.
pub returns-then-not-are_hex_digits-clause-only : goal.returns-then-not-are_hex_digits-clause-only
returns-then-not-are_hex_digits-clause-only c refused =
    decode_of-non_digit_short c.args.digits.now c.concat_lanes-text.result (2 * (length c.args.bytes.now - 8))
    c.concat_lanes-text.ensures (sym c.are_hex_digits.ensures ∙ c.if-not-are_hex_digits.true)

-- The first eight bytes and the last eight cover all, and agree where they overlap.
pub returns-clause-found : goal.returns-clause-found
returns-clause-found c taken =
    let digits = sym c.are_hex_digits.ensures ∙ c.if-not-are_hex_digits.false in
    decode_of-short c.args.digits.now c.args.bytes.now c.concat_lanes-text.result
    c.bytes_of_hex_digits-decoded.result
    c.requires.size c.requires.some c.requires.few c.concat_lanes-text.ensures digits
    (c.bytes_of_hex_digits-decoded.ensures digits)
