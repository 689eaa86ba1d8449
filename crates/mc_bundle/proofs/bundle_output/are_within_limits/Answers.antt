-- A part over the limit is one of the parts whose sizes the limits bound.
use Rattle.mc_bundle.proofs.Pieces.{part_too_large}
use Rattle.mc_bundle.proofs.bundle_output.are_within_limits.Goals as goal

pub returns-then-part-gt-MAX_PART-clause-beyond : goal.returns-then-part-gt-MAX_PART-clause-beyond
returns-then-part-gt-MAX_PART-clause-beyond c = λ limits.
    let wide = rw c.part-item.is at c.if-part-gt-MAX_PART.true in
    part_too_large c.args.parts.now c.loop-part.part-index c.part-item.result c.loop-part-test.true
    wide limits.sizes
