-- Lanes 0 to 31 of both, one after the other, are all of them.
use Rattle.std.proofs.Common.{◌++◌, length-append, arith}
use Rattle.std.proofs.lemmas.Simd.{pick_l_whole}
use Rattle.mc_igmp.proofs.digits.concat_lanes.Goals as goal

pub returns : goal.returns
returns c =
    let front = c.args.front in
    let back = c.args.back in
    pick_l_whole 0 (front ++ back) 32
    (omega (arith, length-append front back, c.fits-front.0, c.fits-back.0))
