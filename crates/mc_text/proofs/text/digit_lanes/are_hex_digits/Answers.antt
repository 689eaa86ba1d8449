-- A byte is a digit exactly if it lies less than 10 from `0`, or its lower case less than 6 from `a`; bytes
-- below wrap round to large distances.
use Rattle.std.proofs.Common.{bit_or}
use Rattle.std.proofs.lemmas.Simd.{zip2_splat, zip2_of_maps}
use Rattle.mc_text.proofs.DigitLaneLemmas.{zip2-splat_lane, lane_below, lane_minus, mask-all_digits}
use Rattle.mc_text.proofs.text.digit_lanes.are_hex_digits.Goals as goal

pub returns : goal.returns
returns c =
    let v = c.args.text in
    let long = c.fits-text.0 in
    let decimal = zip2-splat_lane lane_below (λ x. lane_minus x 48) 10 v long
    (zip2_splat lane_minus v 32 48 long) in
    let letter = zip2-splat_lane lane_below (λ x. lane_minus (bit_or x 32) 97) 6 v long
    (zip2-splat_lane lane_minus (λ x. bit_or x 32) 97 v long (zip2_splat bit_or v 32 32 long)) in
    mask-all_digits v _ c.fits-text (zip2_of_maps bit_or _ _ v decimal letter)
