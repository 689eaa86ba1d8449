-- Of a digit the smaller of the two distances is its value: the other one wraps round or is larger.
use Rattle.std.proofs.Common.{bit_or, ◌∙◌}
use Rattle.std.proofs.lemmas.Simd.{zip2_splat}
use Rattle.mc_text.proofs.DigitLaneLemmas.{zip2-splat_lane, lane_minus, select-smaller_lane, map-value_lane}
use Rattle.mc_text.proofs.text.digit_lanes.digit_values.Goals as goal

pub returns : goal.returns
returns c digits =
    let v = c.args.text in
    let long = c.fits-text.0 in
    let small = zip2_splat bit_or v 32 32 long in
    select-smaller_lane _ _ v (zip2_splat lane_minus v 32 48 long)
    (zip2-splat_lane lane_minus (λ x. bit_or x 32) 87 v long small)
    ∙ map-value_lane v c.fits-text.1 digits
