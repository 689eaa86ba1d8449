-- The mark of each byte is whether it equals a space.
use Rattle.std.proofs.Common.{refl, arith, eqb, w8}
use Rattle.std.proofs.lemmas.Simd.{bitmask_splat, length-chunk}
use Rattle.std.specs.Simd.Lanes.{chunk}
use Rattle.mc_tables.proofs.MarkedLemmas.{mask-are_marks}
use Rattle.mc_tables.proofs.lines.marked_line.space_marks.Goals as goal

pub returns : goal.returns
returns c = record {
  marks = (
      let line = c.args.line.now in
      let size = length-chunk 0 32 line c.requires.within in
      mask-are_marks (λ b. eqb b 32) (λ b. eqb b 32) line _ c.requires.within c.type_inv.line
      (bitmask_splat w8 eqb (chunk 0 32 line) 32 32 size (omega arith)) refl);
}
