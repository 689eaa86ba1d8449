-- The mark of each byte is whether it equals the one that is searched.
use Rattle.std.proofs.Common.{arith, eqb, w8}
use Rattle.std.proofs.lemmas.Simd.{bitmask_splat, length-chunk}
use Rattle.std.specs.Simd.Lanes.{chunk}
use Rattle.mc_text.proofs.text.byte_search.marks_of_byte.Goals as goal

pub returns : goal.returns
returns c = record {
  marks = (
      let text = c.args.text.now in
      bitmask_splat w8 eqb (chunk 0 64 text) 64 c.args.byte (length-chunk 0 64 text c.requires.within)
      (omega arith));
}
