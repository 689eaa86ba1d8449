use Rattle.std.proofs.Common.{sym, ◌∙◌}
use Rattle.mc_igmp.proofs.DecodedLemmas.{decoded_eight}
use Rattle.mc_igmp.proofs.digits.decode_eight.Goals as goal

-- Both halves of the lanes are the first sixteen digits.
pub returns-clause-decoded : goal.returns-clause-decoded
returns-clause-decoded c =
    let digits = sym c.are_hex_digits.ensures ∙ c.if-not-are_hex_digits.false in
    decoded_eight c.args.digits.now c.args.bytes.now c.concat_lanes-text.result c.bytes_of_hex_digits.result
    c.requires.digits c.requires.room c.concat_lanes-text.ensures digits
    (c.bytes_of_hex_digits.ensures digits)
