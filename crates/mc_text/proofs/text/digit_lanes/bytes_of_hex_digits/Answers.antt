-- The even lanes are the high digits and the odd ones the low digits of the pairs.
use Rattle.mc_text.proofs.DigitLaneLemmas.{zip2-pair_lane}
use Rattle.mc_text.proofs.text.digit_lanes.bytes_of_hex_digits.Goals as goal

pub returns : goal.returns
returns c digits =
    zip2-pair_lane c.args.text c.digit_values-values.result c.fits-text.0 digits
    (c.digit_values-values.ensures digits)
